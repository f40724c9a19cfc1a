use Rattle.std.proofs.Common.{◌≡◌, true, sym, subst}
use Rattle.std.specs.Prelude.{map}
use Rattle.graph_nodes.specs.Fitting.{FitsChild}
use Rattle.graph_nodes.specs.Promises.{node_promise}
use Rattle.graph_nodes.proofs.fits.fits_child.Goals as goal

pub returns-in-Node : goal.returns-in-Node
returns-in-Node c = subst (λ k. c.fits_at.result ≡ true → FitsChild (map node_promise c.args.nodes.now) c.args.at k) (sym c.in-Node.is) c.fits_at.ensures
