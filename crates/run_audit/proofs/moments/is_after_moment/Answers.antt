use Rattle.std.proofs.Common.{◌≡◌, subst, inr}
use Rattle.std.specs.Prelude.{ℕ, Option, length}
use Rattle.mount_log.specs.Controls.{Come, Left}
use Rattle.run_audit.specs.Noted.{course_of}
use Rattle.run_audit.specs.Timed.{IsRequestPlace}
use Rattle.run_audit.proofs.Timing.{after_by}
use Rattle.run_audit.proofs.moments.is_after_moment.Goals as goal

pub returns-in-Some-clause-sound : goal.returns-in-Some-clause-sound
returns-in-Some-clause-sound c = λ yes control is. Come c.args.brick c.args.count c.args.proc is (c.has_come.ensures.sound yes)

pub returns-in-None-clause-sound : goal.returns-in-None-clause-sound
returns-in-None-clause-sound c = λ yes control is. Left c.args.brick c.args.count c.args.proc (inr is) (c.is_left.ensures.not_come yes) (c.is_left.ensures.first yes)

pub returns-in-Some-clause-complete : goal.returns-in-Some-clause-complete
returns-in-Some-clause-complete c = λ noted few place control when_is timely.
    c.has_come.ensures.complete noted c.requires.within
    (subst (λ (o : Option ℕ). IsRequestPlace c.args.script.now c.args.log.now (course_of c.args.notes.now (length c.args.log.now.events)) c.args.phase c.args.number c.args.brick c.args.proc c.args.count o) c.in-Some.is place)

pub returns-in-None-clause-complete : goal.returns-in-None-clause-complete
returns-in-None-clause-complete c = λ noted few place control when_is timely.
    let left =
    after_by c.args.script.now c.args.log.now (course_of c.args.notes.now (length c.args.log.now.events)) c.args.phase c.args.at c.args.number control c.args.brick c.args.count c.args.proc when_is
    (subst (λ (o : Option ℕ). IsRequestPlace c.args.script.now c.args.log.now (course_of c.args.notes.now (length c.args.log.now.events)) c.args.phase c.args.number c.args.brick c.args.proc c.args.count o) c.in-None.is place) timely in
    c.is_left.ensures.complete few left.0 left.1
