use Rattle.std.specs.Prelude.{ℕ, ◌≡◌, ◌<◌, Some, length, map, slice_get}
use Rattle.mount_log.specs.declared.logs.SentLine.{SentLine}
use Rattle.error_audit.specs.LockTable.{IsLineNoted, AreOfCalls}
use Rattle.error_audit.proofs.locks.locks_of.Given as goal

abbrev pub invariant-loop-at : goal.invariant-loop-at
invariant-loop-at l = record {
  noted : (i : ℕ) (line : SentLine) → i < l.at → slice_get l.log.sent i ≡ Some line → IsLineNoted (map (λ q. q.items) l.lists.items) i line;
  only : AreOfCalls l.log (map (λ q. q.items) l.lists.items);
  many : length l.lists.items ≡ l.many;
}
