use Rattle.mount_locks.proofs.Waiters.{waiters_blocked}
use Rattle.mount_locks.proofs.locks.MountLocks.waiting_are_blocked.Goals as goal

pub returns : goal.returns
returns c = rw (← c.self.view_is) (waiters_blocked c.self.inside.queue c.numbers_rise.ensures c.self.invariant.blocked)
