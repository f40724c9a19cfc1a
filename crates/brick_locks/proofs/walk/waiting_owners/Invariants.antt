use Rattle.std.proofs.Common.{◌≡◌, drop, ◌++◌}
use Rattle.std.specs.List.{list_any, filter}
use Rattle.std.specs.Ordering.{nat_cmp, is_eq}
use Rattle.brick_locks.specs.Walks.{waits, picked}
use Rattle.brick_locks.proofs.walk.waiting_owners.Given as goal

abbrev pub invariant-loop-number : goal.invariant-loop-number
invariant-loop-number l = l.owners ++ picked (waits l.queue) l.queue (drop l.number-index l.numbers) ≡ picked (waits l.queue) l.queue l.numbers
