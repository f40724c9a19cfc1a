use Rattle.std.proofs.Common.{◌-◌, length}
use Rattle.std.specs.Prelude.{◌≤◌, min, max}
use Rattle.mount_log.specs.Switches.{IsCounted}
use Rattle.mount_log.proofs.switches.count_to.Given as goal

abbrev pub invariant-loop-now : goal.invariant-loop-now
invariant-loop-now l = IsCounted l.events l.now × (l.fn.passed.next ≤ l.now.next × l.now.next ≤ max l.fn.passed.next (min l.number (length l.events)))

abbrev pub decreases-loop-now : goal.decreases-loop-now
decreases-loop-now l = length l.events - l.now.next
