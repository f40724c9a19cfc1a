use Rattle.std.proofs.Common.{ℕ, ◌<◌, ◌≡◌}
use Rattle.std.specs.Prelude.{Some, slice_get}
use Rattle.wire_messages.specs.Messages.{input_in}
use Rattle.mount_log.specs.declared.logs.SentLine.{SentLine}
use Rattle.line_audit.specs.Caused.{IsCaused}
use Rattle.log_audit.specs.Armed.{AreArmedFrom}
use Rattle.line_audit.proofs.causes.lines_are_caused.Given as goal

abbrev pub invariant-loop-k : goal.invariant-loop-k
invariant-loop-k l = ((i : ℕ) (line : SentLine) → i < l.k → slice_get l.log.sent i ≡ Some line → IsCaused l.log line (input_in line.bytes)) × AreArmedFrom l.log.sent l.k l.armed
