use Rattle.std.proofs.Common.{◌∙◌, ap, refl, arith, length, List, ℕ}
use Rattle.fop_types.specs.Paths.{last_part}
use Rattle.fop_types.proofs.PathLemmas.{last_read}
use Rattle.fop_types.proofs.calls.Path.last.Goals as goal

pub returns-else-count-eq0 : goal.returns-else-count-eq0
returns-else-count-eq0 c =
    let from = last_read c.as_slice-parts.result.now (length c.as_slice-parts.result.now) c.index-parts-count.result refl (omega (arith, c.if-count-eq0.false)) in
    c.as_slice.ensures ∙ c.index-parts-count.is ∙ from ∙ ap (λ (p : List (List ℕ)). last_part p) c.as_slice-parts.ensures
