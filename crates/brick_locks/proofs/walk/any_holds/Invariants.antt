use Rattle.std.proofs.Common.{◌≡◌, drop, not}
use Rattle.std.specs.List.{list_any, filter}
use Rattle.std.specs.Ordering.{nat_cmp, is_eq}
use Rattle.queue_index.specs.Queue.{is_at_number}
use Rattle.brick_locks.specs.Walks.{waits}
use Rattle.brick_locks.proofs.walk.any_holds.Given as goal

abbrev pub invariant-loop-number : goal.invariant-loop-number
invariant-loop-number l = list_any (is_at_number (λ n r. not (waits l.queue n r)) l.queue) (drop l.number-index l.numbers) ≡ list_any (is_at_number (λ n r. not (waits l.queue n r)) l.queue) l.numbers
