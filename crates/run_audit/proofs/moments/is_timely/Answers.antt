use Rattle.std.proofs.Common.{◌≡◌, sym, ◌∙◌}
use Rattle.run_audit.proofs.Timing.{not_some}
use Rattle.run_audit.proofs.moments.is_timely.Goals as goal

pub returns-clause-sound : goal.returns-clause-sound
returns-clause-sound c = λ yes _. c.is_moment.ensures.sound yes

pub returns-clause-complete : goal.returns-clause-complete
returns-clause-complete c = λ noted few within requests timely.
    let none = not_some c.args.how.sent (sym c.is_some.ensures ∙ c.if-is_some.false) in c.is_moment.ensures.complete noted few (requests none) (timely none)

pub returns-then-not-is_in_phase-clause-complete : goal.returns-then-not-is_in_phase-clause-complete
returns-then-not-is_in_phase-clause-complete c = λ noted few within requests timely. sym c.if-not-is_in_phase.true ∙ c.is_in_phase.ensures.1 within
