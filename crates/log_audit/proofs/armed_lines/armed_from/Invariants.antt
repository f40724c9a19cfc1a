use Rattle.std.proofs.Common.{ℕ, ◌≡◌, ◌<◌, ◌≤◌, ◌-◌, length}
use Rattle.std.specs.Prelude.{Some, slice_get}
use Rattle.mount_log.specs.Arms.{IsArmedLine}
use Rattle.mount_log.specs.declared.logs.SentLine.{SentLine}
use Rattle.log_audit.proofs.armed_lines.armed_from.Given as goal

abbrev pub invariant-loop-stop : goal.invariant-loop-stop
invariant-loop-stop l = (l.from ≤ l.stop) × ((k : ℕ) (y : SentLine) → k < l.stop → slice_get l.sent k ≡ Some y → l.from ≤ k → IsArmedLine l.event l.brick y)

abbrev pub decreases-loop-stop : goal.decreases-loop-stop
decreases-loop-stop l = length l.sent - l.stop
