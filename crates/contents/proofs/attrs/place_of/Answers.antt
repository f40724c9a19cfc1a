use Rattle.std.proofs.Common.{arith, sym, ap, ◌∙◌, List, ℕ}
use Rattle.std.specs.Ordering.{nat_cmp}
use Rattle.std.specs.Cmp.Lexicographic.{slice_cmp}
use Rattle.contents.proofs.Replaced.{replaced}
use Rattle.contents.proofs.attrs.place_of.Goals as goal

pub returns-in-Equal-clause-taken : goal.returns-in-Equal-clause-taken
returns-in-Equal-clause-taken c = (
  omega (arith, c.loop-other.invariant.0, c.loop-other-test.true),
  replaced c.args.attrs.now c.loop-other.other-index c.loop-other.place c.args.attr.now c.other-item.result c.loop-other.invariant.0 c.loop-other-test.true c.other-item.is
      (ap (λ (n : List ℕ). slice_cmp nat_cmp n c.other-item.result.name) (sym c.as_slice.ensures)
      ∙ ap (λ (n : List ℕ). slice_cmp nat_cmp c.as_slice.result.now n) (sym c.as_slice-in-loop-other.ensures) ∙ sym c.cmp.ensures ∙ c.in-Equal.is)
      c.loop-other.invariant.1,
)
