use Rattle.std.proofs.Common.{arith}
use Rattle.mount_locks.proofs.Counts.{one_granted}
use Rattle.mount_locks.proofs.queue.RequestQueue.grant.Goals as goal

pub overflow_sub-self : goal.overflow_sub-self
overflow_sub-self c =
    let one = one_granted c.args.number c.self.inside.waiting c.self.inside.requests c.args.self.now c.mark.new.self c.self.view_is c.numbers_rise.ensures c.requires c.self.invariant c.mark.ensures in
    omega (arith, one)

pub invariant_of-self : goal.invariant_of-self
invariant_of-self c =
    let one = one_granted c.args.number c.self.inside.waiting c.self.inside.requests c.args.self.now c.mark.new.self c.self.view_is c.numbers_rise.ensures c.requires c.self.invariant c.mark.ensures in
    omega (arith, one)
