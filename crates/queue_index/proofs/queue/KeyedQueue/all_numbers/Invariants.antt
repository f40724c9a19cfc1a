use Rattle.std.proofs.Common.{◌≡◌, ◌++◌}
use Rattle.queue_index.proofs.queue.KeyedQueue.all_numbers.Given as goal

abbrev pub invariant-loop-number : goal.invariant-loop-number
invariant-loop-number g l = l.found.items ++ l.number-iterator ≡ l.initial.number-iterator
