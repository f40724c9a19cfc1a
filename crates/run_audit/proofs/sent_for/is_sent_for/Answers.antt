use Rattle.std.proofs.Common.{◌≡◌, sym, subst, ◌∙◌}
use Rattle.std.specs.Prelude.{ℕ, List, Option, IfSome, length}
use Rattle.script_lang.specs.declared.scripts.Action.{Action}
use Rattle.mount_log.proofs.Items.{some_is}
use Rattle.mount_log.specs.Controls.{IsSentFor}
use Rattle.run_audit.specs.Noted.{course_of}
use Rattle.run_audit.specs.SentFor.{HasAction, IsActionOf}
use Rattle.run_audit.proofs.sent_for.is_sent_for.Goals as goal

pub returns-in-Some-clause-sound : goal.returns-in-Some-clause-sound
returns-in-Some-clause-sound c = λ yes sent a is can.
    let own : HasAction c.args.line.now.brick c.args.line.now.bytes c.in_ok-found.found =
    subst (λ (l : List ℕ). HasAction c.args.line.now.brick l c.in_ok-found.found) c.as_slice.ensures c.in_ok-found.ensures.has in
    subst (λ (x : Action). IsSentFor c.args.script.now c.args.log.now (course_of c.args.notes.now (length c.args.log.now.events)) c.args.k c.args.line.now x)
    (some_is c.in-Some.action a (sym c.in-Some.is ∙ own sent a is can)) (c.has_cause.ensures.sound yes)

pub returns-in-Some-clause-complete : goal.returns-in-Some-clause-complete
returns-in-Some-clause-complete c = λ noted few all.
    let own : IsActionOf c.args.line.now.brick c.args.line.now.bytes c.in-Some.action =
    subst (λ (l : List ℕ). IsActionOf c.args.line.now.brick l c.in-Some.action) c.as_slice.ensures
    (subst (λ (o : Option Action). IfSome o (λ a. IsActionOf c.args.line.now.brick c.as_slice.result.now a)) c.in-Some.is c.in_ok-found.ensures.is) in
    c.has_cause.ensures.complete noted few (all own.sent c.in-Some.action own.is own.by)
