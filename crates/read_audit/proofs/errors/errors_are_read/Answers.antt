use Rattle.std.proofs.Common.{arith}
use Rattle.read_audit.proofs.ErrorReplies.{errors_next, all_read}
use Rattle.read_audit.proofs.errors.errors_are_read.Goals as goal

pub loop-k-preserved : goal.loop-k-preserved
loop-k-preserved c =
    errors_next c.args.run.now.script.now c.args.run.now.plans.now c.args.run.now.log.now c.args.run.now.bricks.now c.loop-k.k (c.in_ok-is_due.ensures c.if-not-branch.false) c.loop-k.invariant

pub returns : goal.returns
returns c = λ _.
    all_read c.args.run.now.script.now c.args.run.now.plans.now c.args.run.now.log.now c.args.run.now.bricks.now c.loop-k.k (omega (arith, c.loop-k-test.false, c.len-k-end.ensures)) c.loop-k.invariant
