use Rattle.std.proofs.Common.{arith}
use Rattle.mount_locks.proofs.Counts.{waiter_out, other_out}
use Rattle.mount_locks.proofs.queue.RequestQueue.remove.Goals as goal

pub overflow_sub-self : goal.overflow_sub-self
overflow_sub-self c =
    let one = waiter_out c.args.number c.self.inside.waiting c.waits_at-waits.result c.self.inside.requests c.remove.new.self c.numbers_rise.ensures c.waits_at-waits.ensures c.if-waits.true c.self.invariant c.remove.ensures in
    omega (arith, one)

pub invariant_of-self : goal.invariant_of-self
invariant_of-self c =
    let one = waiter_out c.args.number c.self.inside.waiting c.waits_at-waits.result c.self.inside.requests c.remove.new.self c.numbers_rise.ensures c.waits_at-waits.ensures c.if-waits.true c.self.invariant c.remove.ensures in
    omega (arith, one)

pub invariant_of-self-else-waits : goal.invariant_of-self-else-waits
invariant_of-self-else-waits c = other_out c.args.number c.self.inside.waiting c.waits_at-waits.result c.self.inside.requests c.remove.new.self c.numbers_rise.ensures c.waits_at-waits.ensures c.if-waits.false c.self.invariant c.remove.ensures
