use Rattle.std.specs.Prelude.{ℕ, ◌≡◌, ◌<◌, Some, slice_get}
use Rattle.mount_log.specs.declared.logs.ReplyLine.{ReplyLine}
use Rattle.run_audit.specs.CallPhases.{IsAnsweredIn}
use Rattle.run_audit.proofs.call_phases.are_answered_in.Given as goal

abbrev pub invariant-loop-k : goal.invariant-loop-k
invariant-loop-k l = (i : ℕ) (reply : ReplyLine) → i < l.k → slice_get l.replies i ≡ Some reply → IsAnsweredIn l.calls l.ended l.last reply
