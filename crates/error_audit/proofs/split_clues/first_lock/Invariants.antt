use Rattle.std.proofs.Common.{◌≡◌, drop, map, None}
use Rattle.error_audit.specs.LockTable.{locks_at}
use Rattle.error_audit.specs.code.Searches.{first_lock}
use Rattle.error_audit.proofs.split_clues.first_lock.Given as goal

abbrev pub invariant-loop-row : goal.invariant-loop-row
invariant-loop-row l =
    first_lock (drop l.row-index l.rows) (locks_at (map (λ q. q.items) l.locks) l.call) l.first ≡ first_lock l.rows (locks_at (map (λ q. q.items) l.locks) l.call) None
