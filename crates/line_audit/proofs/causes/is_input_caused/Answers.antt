use Rattle.std.proofs.Common.{sym, subst}
use Rattle.fop_types.specs.declared.messages.Input.{Input}
use Rattle.wire_messages.specs.declared.messages.Message.TheVariants.{Whole}
use Rattle.log_audit.specs.Armed.{IsArmable}
use Rattle.line_audit.specs.Caused.{IsInputCaused, IsInputCausedAt}
use Rattle.line_audit.proofs.causes.is_input_caused.Goals as goal

pub returns-in-Down-clause-sound : goal.returns-in-Down-clause-sound
returns-in-Down-clause-sound c = λ yes. subst (λ (x : Input). IsInputCaused c.args.log.now c.args.line.now x) (sym c.in-Down.is) (c.is_down_caused.ensures.sound yes)

pub returns-in-Down-clause-complete : goal.returns-in-Down-clause-complete
returns-in-Down-clause-complete c = λ early at.
    c.is_down_caused.ensures.complete (early (subst (λ (x : Input). IsArmable (Whole x)) (sym c.in-Down.is) (record {})))
    (subst (λ (x : Input). IsInputCausedAt c.args.log.now c.args.k c.args.line.now x) c.in-Down.is at)
