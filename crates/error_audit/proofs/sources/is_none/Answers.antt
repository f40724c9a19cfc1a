use Rattle.std.proofs.Common.{◌≡◌, refl}
use Rattle.std.specs.Prelude.{[], ◌∷◌}
use Rattle.error_audit.proofs.Sourcing.{one_common, of_one}
use Rattle.error_audit.proofs.sources.is_none.Goals as goal

pub returns : goal.returns
returns c = (
  λ yes k own. c.have_none.ensures.0 yes k (one_common (c.args.mask ∷ []) c.args.mask k refl own),
  λ none. c.have_none.ensures.1 (λ k all. none k (of_one c.args.mask k all)),
)
