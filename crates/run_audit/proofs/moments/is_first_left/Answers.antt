use Rattle.std.proofs.Common.{◌≡◌, sym, subst, ◌∙◌}
use Rattle.std.specs.Prelude.{◌-◌, List, length}
use Rattle.script_lang.specs.declared.scripts.ControlLine.{ControlLine}
use Rattle.run_audit.specs.Timed.{AreEarlier}
use Rattle.run_audit.proofs.Settling.{settled_by}
use Rattle.run_audit.proofs.Timing.{first_left, earlier_by}
use Rattle.run_audit.proofs.moments.is_first_left.Goals as goal

pub returns-clause-sound : goal.returns-clause-sound
returns-clause-sound c = λ yes.
    first_left c.args.script.now c.args.log.now c.args.numbers.now c.args.notes.now c.requires.numbers c.args.phase c.args.at c.args.number c.in-Some.here.now c.carried_of.result.now
    (c.is_settled.ensures.0 c.if-not-is_settled.false) (sym c.in-Some.ensures) c.carried_of.ensures
    (subst (λ (l : List ControlLine). AreEarlier l c.carried_of.result.now c.args.at c.args.number (length l)) c.as_slice.ensures (c.are_earlier.ensures.0 yes))

pub returns-clause-complete : goal.returns-clause-complete
returns-clause-complete c = λ some few left.
    c.are_earlier.ensures.1
    (subst (λ (l : List ControlLine). AreEarlier l c.carried_of.result.now c.args.at c.args.number (length l)) (sym c.as_slice.ensures)
    (earlier_by c.args.script.now c.args.log.now c.args.notes.now c.args.phase c.args.at c.args.number c.in-Some.here.now c.carried_of.result.now (sym c.in-Some.ensures) c.carried_of.ensures left))

pub returns-then-not-is_settled-clause-complete : goal.returns-then-not-is_settled-clause-complete
returns-then-not-is_settled-clause-complete c = λ some few left.
    sym c.if-not-is_settled.true ∙ c.is_settled.ensures.1 (settled_by c.args.log.now c.args.numbers.now c.requires.numbers c.args.script.now c.args.phase (c.args.number - 1) left.nothing_else)
