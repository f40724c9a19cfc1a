use Rattle.std.proofs.Common.{sym, ◌∙◌}
use Rattle.log_audit.proofs.Arming.{armable, no_request}
use Rattle.log_audit.proofs.armed_lines.are_armable.Goals as goal

pub returns-clause-sound : goal.returns-clause-sound
returns-clause-sound c = λ yes. armable c.args.bytes.now c.in_ok-message.message c.in_ok-message.ensures.said (c.says_armable-yes.ensures.0 yes)

pub returns-then-is_request-clause-complete : goal.returns-then-is_request-clause-complete
returns-then-is_request-clause-complete c = λ can. absurd (no_request c.messages_read_back.ensures c.args.bytes.now (sym c.is_request.ensures ∙ c.if-is_request.true) can)
