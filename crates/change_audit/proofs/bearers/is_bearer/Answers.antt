use Rattle.change_audit.proofs.Bearing.{bearer_is}
use Rattle.change_audit.proofs.bearers.is_bearer.Goals as goal

pub returns-clause-sound : goal.returns-clause-sound
returns-clause-sound c = λ yes.
    bearer_is c.args.log.now c.args.bricks.now c.args.plan.now c.args.call c.args.graph c.args.change c.args.number c.args.text.now c.args.bearer.now (c.has_member.ensures.0 c.if-not-has_member.false)
    (c.in_ok-yes.ensures.sound yes)
