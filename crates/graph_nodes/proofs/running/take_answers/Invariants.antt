use Rattle.std.proofs.Common.{◌≡◌, ◌++◌, length}
use Rattle.std.specs.List.{flat_map}
use Rattle.graph_nodes.specs.Calls.{answers_in}
use Rattle.graph_nodes.proofs.running.take_answers.Given as goal

abbrev pub invariant-loop-answered : goal.invariant-loop-answered
invariant-loop-answered l = l.answers ++ flat_map answers_in l.came ≡ l.fn.answers ++ flat_map answers_in l.fn.came

abbrev pub decreases-loop-answered : goal.decreases-loop-answered
decreases-loop-answered l = length l.came
