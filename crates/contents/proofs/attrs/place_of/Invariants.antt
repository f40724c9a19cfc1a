use Rattle.std.proofs.Common.{◌≡◌, ◌++◌, take, drop}
use Rattle.fop_types.specs.Names.{with_attr}
use Rattle.contents.proofs.attrs.place_of.Given as goal

abbrev pub invariant-loop-other : goal.invariant-loop-other
invariant-loop-other l =
    (l.place ≡ l.other-index) × (with_attr l.attrs l.attr ≡ take l.other-index l.attrs ++ with_attr (drop l.other-index l.attrs) l.attr)
