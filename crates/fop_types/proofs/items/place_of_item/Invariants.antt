use Rattle.std.proofs.Common.{◌≡◌, ◌++◌, take, drop}
use Rattle.fop_types.specs.Names.{with_item}
use Rattle.fop_types.proofs.items.place_of_item.Given as goal

abbrev pub invariant-loop-other : goal.invariant-loop-other
invariant-loop-other l =
    (l.place ≡ l.other-index) × (with_item l.items l.item ≡ take l.other-index l.items ++ with_item (drop l.other-index l.items) l.item)
