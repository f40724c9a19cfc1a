use Rattle.read_audit.proofs.ErrorReplies.{error_due}
use Rattle.read_audit.proofs.errors.is_due.Goals as goal

pub returns : goal.returns
returns c = λ yes.
    error_due c.args.run.now.script.now c.args.run.now.plans.now c.args.run.now.log.now c.args.run.now.bricks.now c.args.calls.now c.args.k c.in-Some.reply.now c.in-Some-made_at.made.now c.requires c.in-Some.ensures c.in-Some-made_at.ensures
    (c.in_ok-yes.ensures yes)
