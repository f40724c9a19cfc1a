use Rattle.std.proofs.Common.{◌≡◌, sym, ◌∙◌, arith}
use Rattle.std.specs.Prelude.{true, false}
use Rattle.log_audit.proofs.Arming.{armed_next, armed_to, not_at, first_is}
use Rattle.log_audit.proofs.armed_lines.armed_from.Goals as goal

pub loop-stop-preserved : goal.loop-stop-preserved
loop-stop-preserved c = (
  (let le = c.loop-stop.invariant.0 in omega (arith, le)),
  armed_next c.args.sent.now c.args.from c.loop-stop.stop c.args.event c.args.brick c.index-sent-stop.result c.loop-stop-test.true c.index-sent-stop.is
      (c.in_ok-is_armed_line.ensures.sound c.if-not-branch.false) c.loop-stop.invariant.1,
)

pub returns-then-not-branch-clause-sound : goal.returns-then-not-branch-clause-sound
returns-then-not-branch-clause-sound c =
    armed_to c.args.sent.now c.args.from c.loop-stop.stop c.args.event c.args.brick c.loop-stop.invariant.1
    (not_at c.args.sent.now c.loop-stop.stop c.args.event c.args.brick c.index-sent-stop.result c.loop-stop-test.true c.index-sent-stop.is
    (λ own. let no : false ≡ true = sym c.if-not-branch.true ∙ c.in_ok-is_armed_line.ensures.complete own in absurd cc))

pub returns-then-not-branch-clause-complete : goal.returns-then-not-branch-clause-complete
returns-then-not-branch-clause-complete c =
    first_is c.args.sent.now c.args.from c.loop-stop.stop c.args.event c.args.brick c.loop-stop.invariant.0
    (not_at c.args.sent.now c.loop-stop.stop c.args.event c.args.brick c.index-sent-stop.result c.loop-stop-test.true c.index-sent-stop.is
    (λ own. let no : false ≡ true = sym c.if-not-branch.true ∙ c.in_ok-is_armed_line.ensures.complete own in absurd cc))
