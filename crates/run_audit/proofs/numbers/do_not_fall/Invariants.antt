use Rattle.std.proofs.Common.{◌≡◌, ◌++◌, ◌+◌, drop, map}
use Rattle.run_audit.specs.Counting.{does_rise}
use Rattle.run_audit.proofs.numbers.do_not_fall.Given as goal

abbrev pub invariant-loop-number : goal.invariant-loop-number
invariant-loop-number l = does_rise l.floor (drop l.number-index l.numbers) ≡ does_rise 0 l.numbers
