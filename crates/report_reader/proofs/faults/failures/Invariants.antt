use Rattle.std.proofs.Common.{◌≡◌, length}
use Rattle.report_reader.specs.code.Readers.{left}
use Rattle.report_reader.specs.code.AnswerForms.{failures_of, failures_onto}
use Rattle.report_reader.proofs.faults.failures.Given as goal

abbrev pub invariant-loop-word : goal.invariant-loop-word
invariant-loop-word l = failures_onto l.faults (failures_of (left l.rest)) ≡ failures_of (left l.words)

abbrev pub decreases-loop-word : goal.decreases-loop-word
decreases-loop-word l = length (left l.rest)
