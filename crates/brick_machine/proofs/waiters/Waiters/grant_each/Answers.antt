use Rattle.brick_machine.specs.Locking.{granted}
use Rattle.brick_machine.proofs.Lockings.{left_next, answered_next}
use Rattle.brick_machine.proofs.waiters.Waiters.grant_each.Goals as goal

pub loop-owner-preserved : goal.loop-owner-preserved
loop-owner-preserved c = (
  left_next c.args.owners.now c.loop-owner.owner-index _ c.loop-owner-test.true _ _ _ c.in_ok-grant.ensures.waiters c.loop-owner.invariant.0,
  answered_next c.args.owners.now c.loop-owner.owner-index _ c.loop-owner-test.true (λ w. granted c.args.store.now.cells w.cells) _ _ _ _ _ _ c.in_ok-grant.ensures.waiters c.in_ok-grant.ensures.outs c.loop-owner.invariant.1,
)
