use Rattle.std.proofs.Common.{◌≡◌, length}
use Rattle.report_reader.specs.code.Readers.{left}
use Rattle.report_reader.specs.code.AnswerForms.{rows_of, rows_onto}
use Rattle.report_reader.proofs.faults.rows.Given as goal

abbrev pub invariant-loop-first : goal.invariant-loop-first
invariant-loop-first l = rows_onto l.all (rows_of (left l.rest)) ≡ rows_of (left l.words)

abbrev pub decreases-loop-first : goal.decreases-loop-first
decreases-loop-first l = length (left l.rest)
