use Rattle.read_audit.proofs.NoCopies.{without_next}
use Rattle.read_audit.proofs.lacking.bricks_without.Goals as goal

pub loop-brick-preserved : goal.loop-brick-preserved
loop-brick-preserved c =
    without_next c.args.log.now c.args.bricks.now c.args.plan.now c.args.call c.args.graph c.args.cell.now c.args.number _ c.loop-brick.list.items c.push.new.self.items c.in_ok-push.ensures.items
    (c.in_ok-is_without.ensures c.if-not-branch.false) c.loop-brick.invariant
