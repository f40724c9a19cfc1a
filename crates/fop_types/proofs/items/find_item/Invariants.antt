use Rattle.std.proofs.Common.{◌≡◌, drop}
use Rattle.fop_types.specs.Names.{item_named}
use Rattle.fop_types.proofs.items.find_item.Given as goal

abbrev pub invariant-loop-item : goal.invariant-loop-item
invariant-loop-item l = item_named (drop l.item-index l.items) l.name ≡ item_named l.items l.name
