use Rattle.std.proofs.Common.{◌-◌, length}
use Rattle.log_audit.specs.Arriving.{IsLow}
use Rattle.log_audit.proofs.timely.pass_to.Given as goal

abbrev pub invariant-loop-now : goal.invariant-loop-now
invariant-loop-now l = IsLow l.brick l.number l.sent l.now

abbrev pub decreases-loop-now : goal.decreases-loop-now
decreases-loop-now l = length l.sent - l.now.next
