use Rattle.std.proofs.Common.{◌≡◌, [], length, map}
use Rattle.std.specs.Prelude.{ℕ}
use Rattle.error_audit.specs.LockTable.{locks_at}
use Rattle.error_audit.proofs.locks.empty_lists.Given as goal

abbrev pub invariant-loop : goal.invariant-loop
invariant-loop l = (length l.lists.items ≡ l.counter) × ((call : ℕ) → locks_at (map (λ q. q.items) l.lists.items) call ≡ [])
