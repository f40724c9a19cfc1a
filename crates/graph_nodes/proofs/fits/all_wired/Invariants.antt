use Rattle.graph_nodes.proofs.Wired.{WiredBelow}
use Rattle.graph_nodes.proofs.fits.all_wired.Given as goal

abbrev pub invariant-loop-i : goal.invariant-loop-i
invariant-loop-i l = WiredBelow l.nodes l.wiring l.i
