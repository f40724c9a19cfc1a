use Rattle.brick_link.specs.Ends.{IsSameLink}
use Rattle.wind_tests.proofs.links.drive.Given as goal

abbrev pub invariant-loop-number : goal.invariant-loop-number
invariant-loop-number g l = IsSameLink l.fn.end l.end

abbrev pub invariant-loop-number-2 : goal.invariant-loop-number-2
invariant-loop-number-2 g l = IsSameLink l.fn.end l.end
