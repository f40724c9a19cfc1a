use Rattle.std.proofs.Common.{refl}
use Rattle.run_audit.proofs.Controlling.{armed_by, no_arm}
use Rattle.run_audit.proofs.carried.is_armed.Goals as goal

pub returns-in_default : goal.returns-in_default
returns-in_default c = (λ _. no_arm c.args.log.now c.args.how.armed c.args.since c.args.how.event c.args.control.now (λ b n q is. c.in_default.not-Before b q n is), λ _. refl)

pub returns : goal.returns
returns c = (
  λ yes. armed_by c.args.log.now c.args.how.armed c.in-Before.brick c.in-Before.count c.args.since c.args.how.event c.in-Before.proc c.args.control.now c.in-Before.is c.if-how-since.false c.if-how.false (c.is_arm.ensures.0 yes),
  λ armed. c.is_arm.ensures.1 (armed c.in-Before.brick c.in-Before.count c.in-Before.proc c.in-Before.is).event,
)
