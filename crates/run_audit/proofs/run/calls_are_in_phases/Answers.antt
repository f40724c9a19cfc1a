use Rattle.std.proofs.Common.{◌≡◌, sym, subst, ◌∙◌}
use Rattle.std.specs.Prelude.{List, IfSome, length}
use Rattle.log_audit.specs.Called.{AreCalls}
use Rattle.run_audit.specs.CallPhases.{AreOneByOne, AreInPhases, AreAnsweredIn}
use Rattle.log_audit.specs.declared.calls_made.CallMade.{CallMade}
use Rattle.run_audit.proofs.Called.{same_calls, none_too_many, none_is}
use Rattle.run_audit.proofs.OneByOne.{alone, one_by_one}
use Rattle.run_audit.proofs.run.calls_are_in_phases.Goals as goal

pub returns-clause-sound : goal.returns-clause-sound
returns-clause-sound c = λ yes. record {
  calls = c.in-Some.calls.items;
  are = subst (λ o. IfSome o (λ calls. AreCalls c.args.script.now c.args.log.now calls.items)) c.in-Some.is c.in_ok-calls.ensures.calls;
  alone =
      alone c.args.script.now c.args.log.now c.in-Some.calls.items (subst (λ o. IfSome o (λ calls. AreCalls c.args.script.now c.args.log.now calls.items)) c.in-Some.is c.in_ok-calls.ensures.calls)
      (subst (λ (l : List CallMade). AreOneByOne c.args.log.now l) c.as_slice.ensures.value (c.in_ok-are_alone.ensures.sound c.if-not-branch.false));
  submitted = subst (λ (l : List CallMade). AreInPhases c.args.notes.now.ended (length c.args.log.now.events) l) c.as_slice-2.ensures.value (c.are_submitted.ensures.0 c.if-not-are_submitted.false);
  answered = subst (λ (l : List CallMade). AreAnsweredIn l c.args.notes.now.ended (length c.args.log.now.events) c.args.log.now.replies) c.as_slice-3.ensures.value (c.are_answered.ensures.0 yes);
}

pub returns-clause-complete : goal.returns-clause-complete
returns-clause-complete c = λ order single have.
    let same = same_calls c.args.script.now c.args.log.now have.calls c.in-Some.calls.items have.are (subst (λ o. IfSome o (λ calls. AreCalls c.args.script.now c.args.log.now calls.items)) c.in-Some.is c.in_ok-calls.ensures.calls) in
    c.are_answered.ensures.1
    (subst (λ (l : List CallMade). AreAnsweredIn l c.args.notes.now.ended (length c.args.log.now.events) c.args.log.now.replies) (same ∙ sym c.as_slice-3.ensures.value) have.answered)

pub returns-then-not-are_submitted-clause-complete : goal.returns-then-not-are_submitted-clause-complete
returns-then-not-are_submitted-clause-complete c = λ order single have.
    let same = same_calls c.args.script.now c.args.log.now have.calls c.in-Some.calls.items have.are (subst (λ o. IfSome o (λ calls. AreCalls c.args.script.now c.args.log.now calls.items)) c.in-Some.is c.in_ok-calls.ensures.calls) in
    sym c.if-not-are_submitted.true
    ∙ c.are_submitted.ensures.1 (subst (λ (l : List CallMade). AreInPhases c.args.notes.now.ended (length c.args.log.now.events) l) (same ∙ sym c.as_slice-2.ensures.value) have.submitted)

pub returns-then-not-branch-clause-complete : goal.returns-then-not-branch-clause-complete
returns-then-not-branch-clause-complete c = λ order single have.
    sym c.if-not-branch.true
    ∙ c.in_ok-are_alone.ensures.complete single
    (subst (λ (l : List CallMade). AreOneByOne c.args.log.now l) (sym c.as_slice.ensures.value)
    (one_by_one c.args.script.now c.args.log.now c.in-Some.calls.items (subst (λ o. IfSome o (λ calls. AreCalls c.args.script.now c.args.log.now calls.items)) c.in-Some.is c.in_ok-calls.ensures.calls) have.alone))

pub returns-in_default-clause-complete : goal.returns-in_default-clause-complete
returns-in_default-clause-complete c = λ order single have.
    absurd (none_too_many c.args.script.now c.args.log.now order (none_is _ (λ x is. c.in_default.not-Some x is) c.in_ok-calls.ensures.none))
