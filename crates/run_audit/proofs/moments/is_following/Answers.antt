use Rattle.std.proofs.Common.{◌≡◌, sym, subst, ◌∙◌}
use Rattle.mount_log.proofs.Items.{some_is}
use Rattle.script_lang.specs.declared.scripts.ControlLine.{ControlLine}
use Rattle.run_audit.specs.Timed.{IsAfter}
use Rattle.run_audit.proofs.Timing.{following}
use Rattle.run_audit.proofs.moments.is_following.Goals as goal

pub returns-in-Some-clause-sound : goal.returns-in-Some-clause-sound
returns-in-Some-clause-sound c = λ yes.
    following c.args.script.now c.args.notes.now c.args.last c.args.phase c.args.number c.args.at c.in-Some.control.now c.if-at-phase.false (sym c.number_of.ensures ∙ c.if-number_of-number.false) (sym c.in-Some.ensures)
    (c.is_after.ensures.0 yes)

pub returns-in-Some-clause-complete : goal.returns-in-Some-clause-complete
returns-in-Some-clause-complete c = λ control same number there after. c.is_after.ensures.1 (subst (λ (x : ControlLine). IsAfter x) (some_is control c.in-Some.control.now (sym there ∙ sym c.in-Some.ensures)) after)
