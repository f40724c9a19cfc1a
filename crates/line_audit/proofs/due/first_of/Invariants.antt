use Rattle.std.proofs.Common.{◌≡◌, ℕ, ◌<◌, ◌≤◌, ◌-◌, length}
use Rattle.std.specs.Prelude.{Some, slice_get}
use Rattle.mount_log.specs.declared.logs.WindLine.{WindLine}
use Rattle.line_audit.specs.Linked.{WindsInOrder}
use Rattle.line_audit.proofs.due.first_of.Given as goal

abbrev pub invariant-loop-low : goal.invariant-loop-low
invariant-loop-low l = record {
  high : l.high ≤ length l.winds;
  before : WindsInOrder l.winds → (k : ℕ) (line : WindLine) → k < l.low → slice_get l.winds k ≡ Some line → line.event < l.number;
  behind : WindsInOrder l.winds → (k : ℕ) (line : WindLine) → l.high ≤ k → slice_get l.winds k ≡ Some line → l.number ≤ line.event;
}

abbrev pub decreases-loop-low : goal.decreases-loop-low
decreases-loop-low l = l.high - l.low
