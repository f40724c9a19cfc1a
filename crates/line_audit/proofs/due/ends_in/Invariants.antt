use Rattle.std.proofs.Common.{◌≤◌}
use Rattle.mount_log.specs.Connects.{IsEndIn}
use Rattle.line_audit.specs.Slots.{AreSlotsLow}
use Rattle.line_audit.specs.Linked.{WindsInOrder}
use Rattle.line_audit.proofs.due.ends_in.Given as goal

abbrev pub invariant-loop-place : goal.invariant-loop-place
invariant-loop-place l = AreSlotsLow l.log.winds → WindsInOrder l.log.winds → (e : IsEndIn l.log.winds l.wind l.graph l.number) → l.place ≤ e.place
