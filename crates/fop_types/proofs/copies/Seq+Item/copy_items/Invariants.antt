use Rattle.std.proofs.Common.{◌≡◌, take}
use Rattle.fop_types.proofs.copies.Seq+Item.copy_items.Given as goal

abbrev pub invariant-loop-item : goal.invariant-loop-item
invariant-loop-item l = l.copies.items ≡ take l.item-index l.items
