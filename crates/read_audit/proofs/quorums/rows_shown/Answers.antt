use Rattle.read_audit.proofs.Fetching.{rows_next}
use Rattle.read_audit.specs.Read.{IsHolder}
use Rattle.read_audit.proofs.quorums.rows_shown.Goals as goal

pub loop-brick-preserved : goal.loop-brick-preserved
loop-brick-preserved c =
    rows_next (IsHolder c.args.log.now c.args.bricks.now c.args.plan.now c.args.call c.args.graph c.args.cells.now c.args.place c.args.until) c.loop-brick.rows.items c.push.new.self.items c.in_ok-found.found c.in-Some.row
    c.in_ok-push.ensures.items c.in-Some.is c.in_ok-found.ensures c.loop-brick.invariant
