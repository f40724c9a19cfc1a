use Rattle.std.proofs.Common.{◌≡◌, ◌≤◌, ◌+◌, ◌++◌, length}
use Rattle.std.specs.Vec.{vec_len, vec_capacity}
use Rattle.mount_locks.specs.Walks.{turns, calls_of, AreUnpassed}
use Rattle.mount_locks.proofs.walk.grant.Given as goal

abbrev pub invariant-loop-number : goal.invariant-loop-number
invariant-loop-number l = record {
  turned : turns l.queue l.numbers.keys ≡ turns l.initial.queue l.initial.numbers.keys;
  noted : l.calls.items ++ calls_of l.queue l.numbers.keys ≡ calls_of l.initial.queue l.initial.numbers.keys;
  unpassed : AreUnpassed l.queue;
  room : vec_len l.calls + length l.numbers.keys ≤ vec_capacity l.calls;
}

abbrev pub decreases-loop-number : goal.decreases-loop-number
decreases-loop-number l = length l.numbers.keys
