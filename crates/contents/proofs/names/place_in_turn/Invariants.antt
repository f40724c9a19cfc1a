use Rattle.std.proofs.Common.{◌≡◌, ◌++◌, take, drop}
use Rattle.fop_types.specs.Names.{without_item}
use Rattle.contents.proofs.names.place_in_turn.Given as goal

abbrev pub invariant-loop-item : goal.invariant-loop-item
invariant-loop-item l =
    (l.place ≡ l.item-index) × (without_item l.items l.name ≡ take l.item-index l.items ++ without_item (drop l.item-index l.items) l.name)
