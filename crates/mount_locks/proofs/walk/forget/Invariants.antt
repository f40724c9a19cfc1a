use Rattle.std.proofs.Common.{◌≡◌, not, length}
use Rattle.std.specs.List.{filter}
use Rattle.queue_index.specs.Queue.{touches}
use Rattle.mount_locks.specs.Keys.{keys_of}
use Rattle.queue_index.proofs.Numbers.{Rise}
use Rattle.mount_locks.proofs.walk.forget.Given as goal

abbrev pub invariant-loop-number : goal.invariant-loop-number
invariant-loop-number l = record {
  same : filter (λ e. not (touches keys_of l.key e.1)) l.queue ≡ filter (λ e. not (touches keys_of l.key e.1)) l.initial.queue;
  rises : Rise l.queue;
}

abbrev pub decreases-loop-number : goal.decreases-loop-number
decreases-loop-number l = length l.queue
