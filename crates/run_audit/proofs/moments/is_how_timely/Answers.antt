use Rattle.std.proofs.Common.{◌≡◌, sym, subst, ◌∙◌}
use Rattle.std.specs.Prelude.{Option, None, Some, length}
use Rattle.run_audit.specs.Noted.{course_of, IsWithin}
use Rattle.run_audit.specs.Timed.{IsHowTimely, IsRequestNoted}
use Rattle.run_audit.specs.declared.run_notes.Carried.{Carried}
use Rattle.mount_log.proofs.Items.{some_is}
use Rattle.mount_log.proofs.Lists.{got}
use Rattle.run_audit.proofs.moments.is_how_timely.Goals as goal

pub returns-in-Some-clause-sound : goal.returns-in-Some-clause-sound
returns-in-Some-clause-sound c = λ yes.
    subst (λ (o : Option Carried). IsHowTimely c.args.script.now c.args.log.now c.args.notes.now c.args.phase c.args.at c.args.control.now o)
    (sym (got c.args.carried.now c.args.at c.in-Some.how.now c.in-Some.ensures.lookup.0 c.in-Some.ensures.lookup.1)) (c.is_timely.ensures.sound yes)

pub returns-in-Some-clause-complete : goal.returns-in-Some-clause-complete
returns-in-Some-clause-complete c = λ how there noted few within requests timely.
    let e : how ≡ c.in-Some.how.now = some_is how c.in-Some.how.now (sym there ∙ got c.args.carried.now c.args.at c.in-Some.how.now c.in-Some.ensures.lookup.0 c.in-Some.ensures.lookup.1) in
    c.is_timely.ensures.complete noted few (subst (λ (x : Carried). IsWithin c.args.notes.now.ended (length c.args.log.now.events) c.args.phase x.event) e within)
    (subst (λ (x : Carried). x.sent ≡ None → IsRequestNoted c.args.script.now c.args.log.now (course_of c.args.notes.now (length c.args.log.now.events)) c.args.phase x.event c.args.control.now x.request) e requests)
    (subst (λ (x : Carried). IsHowTimely c.args.script.now c.args.log.now c.args.notes.now c.args.phase c.args.at c.args.control.now (Some x)) e timely)
