use Rattle.read_audit.proofs.Listing.{all_read}
use Rattle.std.proofs.Common.{◌≡◌, false}
use Rattle.fop_types.specs.Names.{is_link}
use Rattle.fop_types.specs.declared.contents.Item.{Item}
use Rattle.read_audit.specs.Names.{HasName}
use Rattle.read_audit.proofs.lists.are_shown.Goals as goal

pub loop-item-preserved : goal.loop-item-preserved
loop-item-preserved c = all_read (λ (i : Item). is_link i.kind ≡ false → HasName c.args.shown.now i.name) c.args.items.now c.loop-item.item-index c.item-item.result c.loop-item-test.true c.item-item.is (c.is_shown.ensures c.if-not-is_shown.false) c.loop-item.invariant
