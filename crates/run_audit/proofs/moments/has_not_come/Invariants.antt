use Rattle.std.specs.Prelude.{ℕ, ◌≡◌, ◌<◌, ◌≤◌, Some, length, slice_get}
use Rattle.mount_log.specs.Controls.{IsRequestOf}
use Rattle.mount_log.specs.declared.logs.SentLine.{SentLine}
use Rattle.run_audit.specs.Noted.{begun}
use Rattle.run_audit.proofs.moments.has_not_come.Given as goal

abbrev pub invariant-loop-k : goal.invariant-loop-k
invariant-loop-k l =
    (i : ℕ) (line : SentLine) → i < l.k → slice_get l.log.sent i ≡ Some line → IsRequestOf l.log (begun l.notes.ended (length l.log.events) l.phase) i l.brick l.proc l.count line
    → l.number ≤ line.event
