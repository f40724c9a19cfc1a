use Rattle.std.proofs.Common.{◌≡◌, ◌≤◌, ◌+◌, min}
use Rattle.graph_nodes.proofs.Ready.{many_in}
use Rattle.graph_nodes.proofs.graphs.Graphs.tasks_len.Given as goal

abbrev pub invariant-loop-graph : goal.invariant-loop-graph
invariant-loop-graph l = (min (l.count + many_in l.graph-iterator) 4294967295 ≡ min (many_in l.initial.graph-iterator) 4294967295) × (l.count ≤ 4294967295)
