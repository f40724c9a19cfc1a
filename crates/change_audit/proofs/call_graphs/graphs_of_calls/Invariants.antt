use Rattle.std.proofs.Common.{◌≡◌, ◌≤◌, ◌+◌, ◌++◌, drop}
use Rattle.change_audit.specs.CallGraphs.{graphs_from}
use Rattle.change_audit.proofs.call_graphs.graphs_of_calls.Given as goal

abbrev pub invariant-loop-event : goal.invariant-loop-event
invariant-loop-event l = record {
  graphs : l.graphs.items ++ graphs_from l.graph (drop l.event-index l.events) ≡ graphs_from 1 l.events;
  few : l.graph ≤ l.event-index + 1;
}
