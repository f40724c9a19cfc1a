use Rattle.std.proofs.Common.{sym}
use Rattle.line_audit.proofs.Carrying.{sent_for}
use Rattle.line_audit.proofs.downs.is_sent.Goals as goal

pub returns-clause-sound : goal.returns-clause-sound
returns-clause-sound c = λ yes. sent_for c.args.log.now c.args.at c.args.number c.args.brick c.args.a.now c.in-Some.line.now (sym c.in-Some.ensures) (c.in_ok-yes.ensures.sound yes)
