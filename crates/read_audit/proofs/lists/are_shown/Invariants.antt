use Rattle.std.proofs.Common.{take}
use Rattle.std.specs.List.{AllByRecursion}
use Rattle.std.proofs.Common.{◌≡◌, false}
use Rattle.fop_types.specs.Names.{is_link}
use Rattle.fop_types.specs.declared.contents.Item.{Item}
use Rattle.read_audit.specs.Names.{HasName}
use Rattle.read_audit.proofs.lists.are_shown.Given as goal

abbrev pub invariant-loop-item : goal.invariant-loop-item
invariant-loop-item l = AllByRecursion (λ (i : Item). is_link i.kind ≡ false → HasName l.shown i.name) (take l.item-index l.items)
