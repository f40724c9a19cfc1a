use Rattle.std.proofs.Common.{◌≡◌, ◌≤◌, ◌+◌, ◌++◌, drop}
use Rattle.mount_log.specs.CallGraphs.{calls_from}
use Rattle.mount_log.proofs.call_graphs.calls_of.Given as goal

abbrev pub invariant-loop-k : goal.invariant-loop-k
invariant-loop-k l = (l.calls.items ++ calls_from l.k l.graph (drop l.k l.events) ≡ calls_from 0 1 l.events) × (l.graph ≤ l.k + 1)
