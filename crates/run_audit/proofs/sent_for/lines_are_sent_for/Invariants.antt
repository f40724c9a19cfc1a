use Rattle.std.specs.Prelude.{ℕ, ◌≡◌, ◌<◌, Some, length, slice_get}
use Rattle.mount_log.specs.declared.logs.SentLine.{SentLine}
use Rattle.run_audit.specs.Noted.{course_of}
use Rattle.run_audit.specs.SentFor.{IsLineSentFor}
use Rattle.run_audit.proofs.sent_for.lines_are_sent_for.Given as goal

abbrev pub invariant-loop-k : goal.invariant-loop-k
invariant-loop-k l = (i : ℕ) (line : SentLine) → i < l.k → slice_get l.log.sent i ≡ Some line → IsLineSentFor l.script l.log (course_of l.notes (length l.log.events)) i line
