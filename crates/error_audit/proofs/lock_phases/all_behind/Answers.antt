use Rattle.std.proofs.Common.{◌≡◌, refl, sym, ◌∙◌}
use Rattle.error_audit.specs.LockTable.{IsBehind}
use Rattle.error_audit.proofs.Different.{all_next, all_read, all_taken}
use Rattle.error_audit.proofs.lock_phases.all_behind.Goals as goal

pub loop-other-preserved : goal.loop-other-preserved
loop-other-preserved c =
    all_next (IsBehind c.args.plan.now c.args.one) c.args.locks.now c.loop-other.other-index _ c.loop-other-test.true c.loop-other.invariant (c.is_behind.ensures.0 c.if-not-is_behind.false)

pub returns : goal.returns
returns c = (λ _. all_taken (IsBehind c.args.plan.now c.args.one) c.args.locks.now c.loop-other.other-index c.loop-other-test.false c.loop-other.invariant, λ _. refl)

pub returns-then-not-is_behind : goal.returns-then-not-is_behind
returns-then-not-is_behind c = (
  λ no. absurd cc,
  λ all. sym c.if-not-is_behind.true ∙ c.is_behind.ensures.1 (all_read (IsBehind c.args.plan.now c.args.one) c.args.locks.now c.loop-other.other-index _ c.loop-other-test.true all),
)
