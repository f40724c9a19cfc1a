use Rattle.std.proofs.Common.{ℕ, ◌<◌, ◌≡◌}
use Rattle.std.specs.Prelude.{Some, slice_get}
use Rattle.mount_log.specs.declared.logs.ReplyLine.{ReplyLine}
use Rattle.read_audit.specs.Erring.{IsErrorDue}
use Rattle.read_audit.proofs.errors.errors_are_read.Given as goal

abbrev pub invariant-loop-k : goal.invariant-loop-k
invariant-loop-k l = (j : ℕ) (reply : ReplyLine) → j < l.k → slice_get l.run.log.now.replies j ≡ Some reply → IsErrorDue l.run.script.now l.run.plans.now l.run.log.now l.run.bricks.now reply
