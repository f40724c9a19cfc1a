use Rattle.std.proofs.Common.{◌≡◌, sym, subst, ◌∙◌}
use Rattle.std.specs.Prelude.{ℕ, List, Some}
use Rattle.mount_log.specs.Procedures.{proc_in}
use Rattle.run_audit.proofs.Timing.{nth_is, nth_there}
use Rattle.run_audit.proofs.moments.is_request.Goals as goal

pub returns-clause-sound : goal.returns-clause-sound
returns-clause-sound c = λ yes.
    let proc : proc_in c.args.line.now.bytes ≡ Some c.args.proc = subst (λ (l : List ℕ). proc_in l ≡ Some c.args.proc) c.as_slice.ensures (c.is_request_of.ensures.0 c.if-not-is_request_of.false) in
    let within = c.is_in_phase.ensures.0 c.if-not-is_in_phase.false in
    record {
      there = c.requires.there;
      same_brick = c.if-line-brick.false;
      is_request = proc;
      behind = within.behind;
      nth = nth_is c.args.log.now c.args.notes.now c.args.tables.now c.requires.tables c.args.phase c.args.place c.args.count c.args.proc c.args.line.now c.requires.there proc within (c.is_nth.ensures.0 yes);
    }

pub returns-clause-complete : goal.returns-clause-complete
returns-clause-complete c = λ until is.
    c.is_nth.ensures.1
    (nth_there c.args.log.now c.args.notes.now c.args.tables.now c.requires.tables c.args.phase c.args.place c.args.count c.args.line.now c.requires.there (record { behind = is.behind; until = until }) is.nth)

pub returns-then-not-is_in_phase-clause-complete : goal.returns-then-not-is_in_phase-clause-complete
returns-then-not-is_in_phase-clause-complete c = λ until is. sym c.if-not-is_in_phase.true ∙ c.is_in_phase.ensures.1 (record { behind = is.behind; until = until })
