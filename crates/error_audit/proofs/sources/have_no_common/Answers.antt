use Rattle.std.proofs.Common.{◌≡◌, sym, subst}
use Rattle.std.specs.Prelude.{List}
use Rattle.afr_changelog.specs.Masks.{IsCommon}
use Rattle.fop_types.specs.declared.contents.Mask.{Mask}
use Rattle.error_audit.proofs.sources.have_no_common.Goals as goal

pub returns : goal.returns
returns c = (
  λ yes k all. c.have_none.ensures.0 yes k (subst (λ (l : List Mask). IsCommon l k) (sym c.as_slice.ensures.value) ((c.in_ok-masks.ensures k).0 all)),
  λ none. c.have_none.ensures.1 (λ k common. none k ((c.in_ok-masks.ensures k).1 (subst (λ (l : List Mask). IsCommon l k) c.as_slice.ensures.value common))),
)
