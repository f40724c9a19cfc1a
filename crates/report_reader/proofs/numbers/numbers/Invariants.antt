use Rattle.std.proofs.Common.{◌≡◌, length}
use Rattle.report_reader.specs.code.Readers.{left}
use Rattle.report_reader.specs.code.Forms.{each_of, items_onto, numbers_of, unit_of}
use Rattle.report_reader.proofs.numbers.numbers.Given as goal

abbrev pub invariant-loop-part : goal.invariant-loop-part
invariant-loop-part l = items_onto l.all (each_of unit_of (left l.rest)) ≡ numbers_of l.word

abbrev pub decreases-loop-part : goal.decreases-loop-part
decreases-loop-part l = length (left l.rest)
