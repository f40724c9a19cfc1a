use Rattle.std.proofs.Common.{◌≡◌, ◌++◌, take, drop}
use Rattle.fop_types.specs.Names.{without_attr}
use Rattle.contents.proofs.attrs.place_in_turn.Given as goal

abbrev pub invariant-loop-attr : goal.invariant-loop-attr
invariant-loop-attr l =
    (l.place ≡ l.attr-index) × (without_attr l.attrs l.name ≡ take l.attr-index l.attrs ++ without_attr (drop l.attr-index l.attrs) l.name)
