use Rattle.std.proofs.Common.{◌-◌, length}
use Rattle.line_audit.specs.Caused.{AreBefore}
use Rattle.line_audit.proofs.downs.skip_to.Given as goal

abbrev pub invariant-loop-now : goal.invariant-loop-now
invariant-loop-now l = AreBefore l.sent l.at l.number → AreBefore l.sent l.now l.number

abbrev pub decreases-loop-now : goal.decreases-loop-now
decreases-loop-now l = length l.sent - l.now
