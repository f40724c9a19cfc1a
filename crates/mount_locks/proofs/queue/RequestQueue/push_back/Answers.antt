use Rattle.std.proofs.Common.{arith}
use Rattle.mount_locks.proofs.Counts.{room_in_last, count_in_last}
use Rattle.mount_locks.proofs.queue.RequestQueue.push_back.Goals as goal

pub overflow_add-self : goal.overflow_add-self
overflow_add-self c =
    let low = room_in_last c.self.inside.requests c.push_back.new.self (c.in_ok-number.number, c.args.request) c.self.inside.waiting c.len.result c.self.invariant c.in_ok-number.ensures.added c.len.ensures in
    omega (arith, low)

pub invariant_of-self-2 : goal.invariant_of-self-2
invariant_of-self-2 c = count_in_last c.self.inside.requests c.push_back.new.self c.in_ok-number.number c.args.request c.self.inside.waiting c.requires c.self.invariant c.in_ok-number.ensures.added
