use Rattle.graph_nodes.proofs.Wired.{FitBelow}
use Rattle.graph_nodes.proofs.fits.all_fit.Given as goal

abbrev pub invariant-loop-i : goal.invariant-loop-i
invariant-loop-i l = FitBelow l.nodes l.wiring l.i
