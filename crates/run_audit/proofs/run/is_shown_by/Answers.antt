use Rattle.std.proofs.Common.{◌≡◌, sym, ◌∙◌}
use Rattle.run_audit.proofs.Running.{run_of}
use Rattle.run_audit.proofs.run.is_shown_by.Goals as goal

pub returns-clause-sound : goal.returns-clause-sound
returns-clause-sound c = λ yes.
    run_of c.args.script.now c.args.log.now c.args.notes.now c.args.numbers.now c.requires.numbers (c.phases_rise.ensures.0 c.if-not-phases_rise.false) (c.phases_end.ensures.0 c.if-not-phases_end.false)
    (c.in_ok-calls_are_in_phases.ensures.sound c.if-not-branch.false) (c.in_ok-yes.ensures.sound yes)

pub returns-clause-complete : goal.returns-clause-complete
returns-clause-complete c = λ order single can is. c.in_ok-yes.ensures.complete can is.controls

pub returns-then-not-branch-clause-complete : goal.returns-then-not-branch-clause-complete
returns-then-not-branch-clause-complete c = λ order single can is. sym c.if-not-branch.true ∙ c.in_ok-calls_are_in_phases.ensures.complete order single is.calls

pub returns-then-not-phases_end-clause-complete : goal.returns-then-not-phases_end-clause-complete
returns-then-not-phases_end-clause-complete c = λ order single can is. sym c.if-not-phases_end.true ∙ c.phases_end.ensures.1 is.settled

pub returns-then-not-phases_rise-clause-complete : goal.returns-then-not-phases_rise-clause-complete
returns-then-not-phases_rise-clause-complete c = λ order single can is. sym c.if-not-phases_rise.true ∙ c.phases_rise.ensures.1 is.rising
