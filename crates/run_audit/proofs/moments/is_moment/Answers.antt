use Rattle.std.proofs.Common.{◌≤◌, arith, inl}
use Rattle.std.specs.Prelude.{length}
use Rattle.mount_log.specs.Controls.{Left}
use Rattle.run_audit.specs.Noted.{course_of}
use Rattle.run_audit.proofs.Timing.{now_by, before_by}
use Rattle.run_audit.proofs.moments.is_moment.Goals as goal

pub returns-in-Before-clause-sound : goal.returns-in-Before-clause-sound
returns-in-Before-clause-sound c = λ yes. Left c.in-Before.brick c.in-Before.count c.in-Before.proc (inl c.in-Before.is) (c.is_left.ensures.not_come yes) (c.is_left.ensures.first yes)

pub returns-in-After-clause-sound : goal.returns-in-After-clause-sound
returns-in-After-clause-sound c = λ yes. c.is_after_moment.ensures.sound yes c.args.control.now c.in-After.is

pub returns-in-Now-clause-complete : goal.returns-in-Now-clause-complete
returns-in-Now-clause-complete c = λ noted few requests timely.
    c.is_next.ensures.complete (let b = c.requires.within.behind in omega (arith, b))
    (now_by c.args.script.now c.args.log.now (course_of c.args.notes.now (length c.args.log.now.events)) c.args.phase c.args.at c.args.number c.args.control.now c.args.numbers.now c.requires.numbers c.in-Now.is timely)

pub returns-in-Before-clause-complete : goal.returns-in-Before-clause-complete
returns-in-Before-clause-complete c = λ noted few requests timely.
    let left =
    before_by c.args.script.now c.args.log.now (course_of c.args.notes.now (length c.args.log.now.events)) c.args.phase c.args.at c.args.number c.args.control.now c.in-Before.brick c.in-Before.count c.in-Before.proc c.in-Before.is timely in
    c.is_left.ensures.complete few left.0 left.1

pub returns-in-After-clause-complete : goal.returns-in-After-clause-complete
returns-in-After-clause-complete c = λ noted few requests timely.
    c.is_after_moment.ensures.complete noted few (requests c.in-After.brick c.in-After.count c.in-After.proc c.in-After.is) c.args.control.now c.in-After.is timely
