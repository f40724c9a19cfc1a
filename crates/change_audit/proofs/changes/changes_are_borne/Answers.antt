use Rattle.std.proofs.Common.{◌≡◌, subst}
use Rattle.std.specs.Prelude.{Option, IfSome, IfNone, length}
use Rattle.std.proofs.lemmas.Result.{IfOk-weaker}
use Rattle.change_audit.specs.Acknowledged.{AreOfReplies, HasCallFrom}
use Rattle.change_audit.specs.declared.notes.Notes.{Notes}
use Rattle.change_audit.proofs.Marking.{not_marked}
use Rattle.change_audit.proofs.changes.changes_are_borne.Goals as goal

pub returns-in-Some-clause-not_due : goal.returns-in-Some-clause-not_due
returns-in-Some-clause-not_due c =
    let own : AreOfReplies c.args.log.now.replies c.in-Some.notes.marks =
    subst (λ (f : Option Notes). IfSome f (λ n. AreOfReplies c.args.log.now.replies n.marks)) c.in-Some.is c.in_ok-notes.ensures.own in
    IfOk-weaker c.are_borne-yes.result _ _ (λ yes by none le. by (not_marked c.args.log.now c.in-Some.notes.marks own none) le) c.are_borne-yes.ensures.not_due

pub returns-in-None-clause-not_due : goal.returns-in-None-clause-not_due
returns-in-None-clause-not_due c = λ none le.
    absurd (none.calls (subst (λ (f : Option Notes). IfNone f (HasCallFrom c.args.log.now.replies (length c.args.log.now.events))) c.in-None.is c.in_ok-notes.ensures.none))
