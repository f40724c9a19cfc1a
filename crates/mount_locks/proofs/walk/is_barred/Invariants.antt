use Rattle.std.proofs.Common.{◌≡◌, ◌-◌, ◌&&◌}
use Rattle.std.specs.List.{list_any}
use Rattle.queue_index.specs.Queue.{numbers, touches, touching_from, is_at_number}
use Rattle.mount_locks.specs.Keys.{keys_of}
use Rattle.mount_locks.specs.Walks.{bars}
use Rattle.mount_locks.proofs.walk.is_barred.Given as goal

abbrev pub invariant-loop-other : goal.invariant-loop-other
invariant-loop-other l = list_any (is_at_number (bars l.shared l.call l.number) l.queue) (numbers (touching_from keys_of l.key l.from l.queue)) ≡ list_any (λ e. touches keys_of l.key e.1 && bars l.shared l.call l.number e.0 e.1) l.queue

abbrev pub decreases-loop-other : goal.decreases-loop-other
decreases-loop-other l = 18446744073709551616 - l.from
