use Rattle.std.proofs.Common.{◌-◌}
use Rattle.run_audit.specs.Counting.{IsBetween}
use Rattle.run_audit.proofs.settled.cut_at.Given as goal

abbrev pub invariant-loop-low : goal.invariant-loop-low
invariant-loop-low l = IsBetween l.numbers l.n l.low l.high

abbrev pub decreases-loop-low : goal.decreases-loop-low
decreases-loop-low l = l.high - l.low
