use Rattle.frame_trees.proofs.Children.{FitBelow}
use Rattle.frame_trees.proofs.fitting.all_fit.Given as goal

abbrev pub invariant-loop-i : goal.invariant-loop-i
invariant-loop-i l = FitBelow l.nodes l.wiring l.i
