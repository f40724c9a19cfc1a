use Rattle.std.proofs.Common.{◌≡◌, sym, subst, ◌∙◌}
use Rattle.std.specs.Prelude.{IfSome}
use Rattle.run_audit.specs.Controlled.{AreTables, AreWholeTables}
use Rattle.run_audit.proofs.run.controls_are_carried.Goals as goal

pub returns-clause-sound : goal.returns-clause-sound
returns-clause-sound c = λ yes. record {
  acts = c.acts_are_right.ensures.acts c.if-not-acts_are_right.false;
  tables = c.in-Some.tables;
  are = subst (λ o. IfSome o (λ tables. AreTables c.args.notes.now.ended c.args.log.now tables)) c.in-Some.is c.in_ok-tables.ensures.sound;
  phases = c.in_ok-yes.ensures.phases yes;
  timely = c.in_ok-yes.ensures.timely yes;
  sent = c.in_ok-lines_are_sent_for.ensures.sound c.if-not-branch.false;
  answered = c.acts_are_right.ensures.answered c.if-not-acts_are_right.false;
}

pub returns-clause-complete : goal.returns-clause-complete
returns-clause-complete c = λ can is.
    c.in_ok-yes.ensures.complete can.requests is.timely
    (is.phases c.in-Some.tables (subst (λ o. IfSome o (λ tables. AreWholeTables c.args.notes.now.ended c.args.log.now tables)) c.in-Some.is c.in_ok-tables.ensures.whole))

pub returns-then-not-branch-clause-complete : goal.returns-then-not-branch-clause-complete
returns-then-not-branch-clause-complete c = λ can is. sym c.if-not-branch.true ∙ c.in_ok-lines_are_sent_for.ensures.complete can.noted is.sent

pub returns-then-not-acts_are_right-clause-complete : goal.returns-then-not-acts_are_right-clause-complete
returns-then-not-acts_are_right-clause-complete c = λ can is. sym c.if-not-acts_are_right.true ∙ c.acts_are_right.ensures.complete can.noted can.many is.acts is.answered
