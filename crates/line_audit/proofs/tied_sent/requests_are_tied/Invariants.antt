use Rattle.std.specs.Prelude.{ℕ, ◌≡◌, ◌<◌, Some, slice_get}
use Rattle.wire_messages.specs.Messages.{input_in}
use Rattle.mount_log.specs.declared.logs.SentLine.{SentLine}
use Rattle.line_audit.specs.Ended.{IsEnded}
use Rattle.line_audit.specs.Tied.{IsTied}
use Rattle.line_audit.proofs.tied_sent.requests_are_tied.Given as goal

abbrev pub invariant-loop-k : goal.invariant-loop-k
invariant-loop-k l =
    ((i : ℕ) (line : SentLine) → i < l.k → slice_get l.log.sent i ≡ Some line → IsTied l.log l.all i line.event (input_in line.bytes))
    × ((i : ℕ) (line : SentLine) → i < l.k → slice_get l.log.sent i ≡ Some line → IsEnded l.log line.brick (input_in line.bytes))
