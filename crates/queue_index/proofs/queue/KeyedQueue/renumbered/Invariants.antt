use Rattle.std.proofs.Common.{◌≡◌, ◌++◌, ◌^◌}
use Rattle.queue_index.specs.Queue.{items, numbered_from}
use Rattle.queue_index.proofs.queue.KeyedQueue.renumbered.Given as goal

abbrev pub invariant-loop-item : goal.invariant-loop-item
invariant-loop-item g l = (items l.fresh ++ l.item-iterator ≡ l.initial.item-iterator) × (l.fresh ≡ numbered_from (2 ^ 63) (items l.fresh))
