use Rattle.std.proofs.Common.{◌≡◌, length}
use Rattle.report_reader.specs.Readings.{lines_in}
use Rattle.report_reader.specs.code.LineForms.{lines_read, nothing_read}
use Rattle.report_reader.proofs.reads.lines.Given as goal

abbrev pub invariant-loop-rest : goal.invariant-loop-rest
invariant-loop-rest l = lines_read (lines_in l.rest) l.draft l.number ≡ lines_read (lines_in l.bytes) nothing_read 0

abbrev pub decreases-loop-rest : goal.decreases-loop-rest
decreases-loop-rest l = length l.rest
