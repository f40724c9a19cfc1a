use Rattle.change_audit.proofs.Bearing.{borne_by}
use Rattle.change_audit.proofs.bearers.is_borne_by.Goals as goal

pub returns-clause-sound : goal.returns-clause-sound
returns-clause-sound c = λ yes.
    borne_by c.args.log.now c.args.bricks.now c.args.call c.args.graph c.args.change c.args.number c.args.text.now c.args.bearer.now (c.is_in_order.ensures.0 c.if-not-is_in_order.false)
    (c.in_ok-is_served.ensures.sound c.if-not-branch.false) (c.in_ok-yes.ensures.sound yes)
