use Rattle.std.proofs.Common.{◌≡◌, ◌≤◌}
use Rattle.std.specs.Prelude.{slice_get}
use Rattle.graph_nodes.specs.Ready.{tasks_in}
use Rattle.graph_nodes.proofs.graphs.Graphs.task_at.Given as goal

abbrev pub invariant-loop-number : goal.invariant-loop-number
invariant-loop-number l = (slice_get (tasks_in l.number-iterator) l.left ≡ slice_get (tasks_in l.initial.number-iterator) l.at) × (l.left ≤ 4294967295)
