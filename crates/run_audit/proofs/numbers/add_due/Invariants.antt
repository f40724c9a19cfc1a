use Rattle.std.proofs.Common.{◌≡◌, ◌++◌, ◌+◌, drop, map}
use Rattle.run_audit.specs.Counting.{due_from}
use Rattle.run_audit.proofs.numbers.add_due.Given as goal

abbrev pub invariant-loop-k : goal.invariant-loop-k
invariant-loop-k l = l.numbers ++ due_from (l.k + 1) (drop l.k l.heads) ≡ l.fn.numbers ++ due_from 1 l.heads
