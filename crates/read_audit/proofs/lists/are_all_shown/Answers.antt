use Rattle.std.proofs.Common.{subst}
use Rattle.read_audit.proofs.Listing.{all_read}
use Rattle.read_audit.specs.Names.{AreShown}
use Rattle.read_audit.proofs.lists.are_all_shown.Goals as goal

pub loop-items-preserved : goal.loop-items-preserved
loop-items-preserved c = all_read (AreShown c.args.shown.now) c.args.lists.now c.loop-items.items-index c.items-item.result c.loop-items-test.true c.items-item.is (subst (AreShown c.args.shown.now) c.as_slice.ensures (c.are_shown.ensures c.if-not-are_shown.false)) c.loop-items.invariant
