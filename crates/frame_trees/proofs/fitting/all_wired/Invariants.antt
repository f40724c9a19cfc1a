use Rattle.frame_trees.proofs.Children.{WiredBelow}
use Rattle.frame_trees.proofs.fitting.all_wired.Given as goal

abbrev pub invariant-loop-i : goal.invariant-loop-i
invariant-loop-i l = WiredBelow l.nodes l.wiring l.i
