use Rattle.std.proofs.Common.{sym, ap, subst, ◌∙◌, map, arith}
use Rattle.std.specs.Prelude.{List, ◌++◌, ◌∷◌, [], ◌+◌, Some, take}
use Rattle.log_audit.specs.Called.{AreGathered}
use Rattle.log_audit.specs.declared.calls_made.CallMade.{CallMade}
use Rattle.log_audit.proofs.Calling.{pass_other, pass_submit, all_passed}
use Rattle.log_audit.proofs.Prefixes.{is_there}
use Rattle.log_audit.proofs.Submitting.{no_place}
use Rattle.log_audit.proofs.calls_made.calls_made.Goals as goal

pub loop-k-preserved-in_default-event : goal.loop-k-preserved-in_default-event
loop-k-preserved-in_default-event c = (
  pass_other c.args.script.now c.args.log.now c.loop-k.k c.in-Some.event.now (sym c.in-Some.ensures) (map (λ q. q.items) c.loop-k.queues.items) c.loop-k.calls.items c.loop-k.invariant.0 c.in_default-event.not-Submit,
  c.loop-k.invariant.1,
  (let le = c.loop-k.invariant.2 in omega (arith, le)),
)

pub loop-k-preserved : goal.loop-k-preserved
loop-k-preserved c = (
  subst (λ (l : List CallMade). AreGathered c.args.script.now c.args.log.now (c.loop-k.k + 1) (map (λ q. q.items) c.take_line.new.lines.items) l)
      (sym (c.in_ok-push.ensures.items ∙ ap (λ (call : CallMade). c.loop-k.calls.items ++ call ∷ []) c.call_made.ensures))
      (pass_submit c.args.script.now c.args.log.now c.loop-k.k c.in-Some.event.now (sym c.in-Some.ensures) (map (λ q. q.items) c.loop-k.queues.items) c.loop-k.calls.items c.loop-k.invariant.0
      c.in-Submit.session c.in-Submit.line (map (λ q. q.items) c.take_line.new.lines.items) c.in-Some-take_line.at c.passed_to-passed.result c.in-Submit.is c.in-Some-take_line.ensures.taken
      c.passed_to-passed.ensures.counted c.if-passed-k.false),
  c.passed_to-passed.ensures.counted,
  (let at = c.if-passed-k.false in omega (arith, at)),
)

pub returns-clause-calls : goal.returns-clause-calls
returns-clause-calls c =
    all_passed c.args.script.now c.args.log.now c.loop-k.k (map (λ q. q.items) c.loop-k.queues.items) c.loop-k.calls.items (omega (arith, c.loop-k-test.false, c.len-k-end.ensures)) c.loop-k.invariant.0

pub returns-in_default-clause-none : goal.returns-in_default-clause-none
returns-in_default-clause-none c =
    absurd (is_there c.args.log.now.events c.loop-k.k (omega (arith, c.loop-k-test.true, c.len-k-end.ensures)) (sym c.in_default.ensures))

pub returns-in_default-take_line-clause-none : goal.returns-in_default-take_line-clause-none
returns-in_default-take_line-clause-none c = record {
  place = c.loop-k.k;
  session = c.in-Submit.session;
  line = c.in-Submit.line;
  there = sym c.in-Some.ensures ∙ ap Some c.in-Submit.is;
  none_left = no_place c.args.script.now (take c.loop-k.k c.args.log.now.events) c.in-Submit.session (map (λ q. q.items) c.loop-k.queues.items) c.loop-k.invariant.0.left c.in_default-take_line.ensures.none;
}

pub returns-then-passed-k-clause-none : goal.returns-then-passed-k-clause-none
returns-then-passed-k-clause-none c =
    let goes = c.passed_to-passed.ensures.next in let le = c.loop-k.invariant.2 in let lt = c.loop-k-test.true in let all = c.len-k-end.ensures in
    absurd (c.if-passed-k.true (omega (arith, goes, le, lt, all)))
