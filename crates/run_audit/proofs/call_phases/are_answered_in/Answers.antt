use Rattle.std.proofs.Common.{◌≡◌, ◌<◌, ◌≤◌, refl, sym, ◌∙◌, arith}
use Rattle.std.specs.Prelude.{ℕ, ◌+◌, length, slice_get}
use Rattle.std.proofs.lemmas.Option.{slice_get_within}
use Rattle.mount_log.specs.declared.logs.ReplyLine.{ReplyLine}
use Rattle.run_audit.specs.CallPhases.{IsAnsweredIn}
use Rattle.mount_log.proofs.Lists.{each_next, got}
use Rattle.run_audit.proofs.call_phases.are_answered_in.Goals as goal

pub loop-k-preserved : goal.loop-k-preserved
loop-k-preserved c =
    each_next (λ (n : ℕ) (reply : ReplyLine). IsAnsweredIn c.args.calls.now c.args.ended.now c.args.last reply) c.args.replies.now c.loop-k.k c.in-Some.reply.now
    (got c.args.replies.now c.loop-k.k c.in-Some.reply.now c.in-Some.ensures.lookup.0 c.in-Some.ensures.lookup.1) (c.is_answered_in.ensures.0 c.if-not-is_answered_in.false) c.loop-k.invariant

pub returns : goal.returns
returns c = (λ _ k reply is. c.loop-k.invariant k reply (let lt = slice_get_within c.args.replies.now k reply is in omega (arith, lt, c.loop-k-test.false)) is, λ _. refl)

pub returns-then-not-is_answered_in : goal.returns-then-not-is_answered_in
returns-then-not-is_answered_in c = (
  λ no. absurd cc,
  λ all. sym c.if-not-is_answered_in.true
      ∙ c.is_answered_in.ensures.1 (all c.loop-k.k c.in-Some.reply.now (got c.args.replies.now c.loop-k.k c.in-Some.reply.now c.in-Some.ensures.lookup.0 c.in-Some.ensures.lookup.1)),
)
