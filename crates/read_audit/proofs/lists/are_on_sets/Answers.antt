use Rattle.read_audit.proofs.Listing.{all_read}
use Rattle.read_audit.specs.Names.{IsOnASet}
use Rattle.read_audit.proofs.lists.are_on_sets.Goals as goal

pub loop-item-preserved : goal.loop-item-preserved
loop-item-preserved c = all_read (IsOnASet c.args.lists.now) c.args.shown.now c.loop-item.item-index c.item-item.result c.loop-item-test.true c.item-item.is (c.is_on_a_set.ensures c.if-not-is_on_a_set.false) c.loop-item.invariant
