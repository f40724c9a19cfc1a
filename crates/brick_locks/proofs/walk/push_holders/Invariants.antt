use Rattle.std.proofs.Common.{◌≡◌, ◌≤◌, ◌+◌, ◌++◌, not, length}
use Rattle.std.specs.Vec.{vec_len, vec_capacity}
use Rattle.brick_locks.specs.Walks.{waits, picked}
use Rattle.brick_locks.proofs.walk.push_holders.Given as goal

abbrev pub invariant-loop-number : goal.invariant-loop-number
invariant-loop-number l = record {
  so_far : l.owners.items ++ picked (λ n r. not (waits l.queue n r)) l.queue l.numbers.keys ≡ picked (λ n r. not (waits l.queue n r)) l.queue l.initial.numbers.keys;
  room : vec_len l.owners + length l.numbers.keys ≤ vec_capacity l.owners;
}

abbrev pub decreases-loop-number : goal.decreases-loop-number
decreases-loop-number l = length l.numbers.keys
