use Rattle.line_audit.proofs.Ending.{by_disconnect}
use Rattle.line_audit.proofs.Finding.{not_ended}
use Rattle.line_audit.proofs.tied_ends.is_ended_by.Goals as goal

pub returns-clause-sound : goal.returns-clause-sound
returns-clause-sound c = λ yes. by_disconnect c.args.log.now c.args.brick c.args.line.now c.args.disconnect (c.in_ok-yes.ensures.0 yes)

pub returns-clause-complete : goal.returns-clause-complete
returns-clause-complete c = λ low place by.
    not_ended c.args.log.now c.args.brick c.args.disconnect c.args.line.now c.is_ended_by_output.result c.in_ok-yes.yes (λ h. c.is_ended_by_output.ensures.complete low h) (λ h. c.in_ok-yes.ensures.1 h) place by
    c.if-is_ended_by_output.false
