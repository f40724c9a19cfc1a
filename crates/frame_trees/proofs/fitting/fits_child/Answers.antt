use Rattle.std.proofs.Common.{◌≡◌, true, sym, subst}
use Rattle.frame_trees.specs.Fitting.{FitsChild}
use Rattle.frame_trees.proofs.fitting.fits_child.Goals as goal

pub returns-in-Node : goal.returns-in-Node
returns-in-Node c = subst (λ k. c.fits_at.result ≡ true → FitsChild c.args.nodes.now c.args.at k) (sym c.in-Node.is) c.fits_at.ensures
