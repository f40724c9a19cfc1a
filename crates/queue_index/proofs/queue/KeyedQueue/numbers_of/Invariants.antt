use Rattle.std.proofs.Common.{◌≡◌, ◌-◌, ◌++◌}
use Rattle.queue_index.specs.Queue.{numbers, touching, touching_from}
use Rattle.queue_index.proofs.queue.KeyedQueue.numbers_of.Given as goal

abbrev pub invariant-loop-number : goal.invariant-loop-number
invariant-loop-number g l = l.found.items ++ numbers (touching_from g.T.Keyed.keys l.key l.from l.self) ≡ numbers (touching g.T.Keyed.keys l.key l.self)

abbrev pub decreases-loop-number : goal.decreases-loop-number
decreases-loop-number g l = 18446744073709551616 - l.from
