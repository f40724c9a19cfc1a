use Rattle.graph_nodes.specs.Fitting.{HasChildren}
use Rattle.graph_nodes.proofs.fits.has_children.Given as goal

abbrev pub invariant-loop-child : goal.invariant-loop-child
invariant-loop-child l = HasChildren l.wiring l.at l.child
