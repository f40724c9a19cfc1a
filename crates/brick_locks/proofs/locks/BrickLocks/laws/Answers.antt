use Rattle.brick_locks.proofs.Laws.{waiters_blocked}
use Rattle.brick_locks.proofs.locks.BrickLocks.laws.Goals as goal

pub returns-clause-blocked : goal.returns-clause-blocked
returns-clause-blocked c = waiters_blocked c.args.self.now
