use Rattle.fop_types.specs.declared.messages.BrickRep.TheVariants.{Gone}
use Rattle.brick_machine.proofs.Lockings.{left_next, answered_next}
use Rattle.brick_machine.proofs.waiters.Waiters.say_gone_each.Goals as goal

pub loop-owner-preserved : goal.loop-owner-preserved
loop-owner-preserved c = (
  left_next c.args.owners.now c.loop-owner.owner-index _ c.loop-owner-test.true _ _ _ c.in_ok-say_gone.ensures.waiters c.loop-owner.invariant.0,
  answered_next c.args.owners.now c.loop-owner.owner-index _ c.loop-owner-test.true (λ w. Gone) _ _ _ _ _ _ c.in_ok-say_gone.ensures.waiters c.in_ok-say_gone.ensures.outs c.loop-owner.invariant.1,
)
