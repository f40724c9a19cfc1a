use Rattle.report_reader.proofs.Loops.{octal_too_great}
use Rattle.report_reader.proofs.numbers.octal.Goals as goal

pub returns-then-value-ge65536 : goal.returns-then-value-ge65536
returns-then-value-ge65536 c = octal_too_great _ _ _ _ _ c.loop-digit-test.true c.saturating_sub.ensures c.if-value-ge65536.true c.loop-digit.invariant.1
