use Rattle.std.specs.Prelude.{ℕ, ◌≡◌, ◌<◌, Some, slice_get}
use Rattle.mount_log.specs.declared.logs.ReplyLine.{ReplyLine}
use Rattle.line_audit.specs.Tied.{IsReplyFound}
use Rattle.line_audit.proofs.tied_replies.replies_are_tied.Given as goal

abbrev pub invariant-loop-k : goal.invariant-loop-k
invariant-loop-k l = (i : ℕ) (reply : ReplyLine) → i < l.k → slice_get l.log.replies i ≡ Some reply → IsReplyFound l.log l.calls reply
