use Rattle.std.proofs.Common.{◌≡◌, refl, sym, ◌∙◌}
use Rattle.error_audit.specs.LockTable.{IsFollowed}
use Rattle.error_audit.proofs.Different.{all_next, all_read, all_taken}
use Rattle.error_audit.proofs.lock_phases.are_in_order.Goals as goal

pub loop-one-preserved : goal.loop-one-preserved
loop-one-preserved c =
    all_next (IsFollowed c.args.plan.now c.args.from c.args.locks.now) c.args.locks.now c.loop-one.one-index _ c.loop-one-test.true c.loop-one.invariant (c.is_followed.ensures.0 c.if-not-is_followed.false)

pub returns : goal.returns
returns c = (λ _. all_taken (IsFollowed c.args.plan.now c.args.from c.args.locks.now) c.args.locks.now c.loop-one.one-index c.loop-one-test.false c.loop-one.invariant, λ _. refl)

pub returns-then-not-is_followed : goal.returns-then-not-is_followed
returns-then-not-is_followed c = (
  λ no. absurd cc,
  λ all. sym c.if-not-is_followed.true ∙ c.is_followed.ensures.1 (all_read (IsFollowed c.args.plan.now c.args.from c.args.locks.now) c.args.locks.now c.loop-one.one-index _ c.loop-one-test.true all),
)
