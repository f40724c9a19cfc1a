use Rattle.script_lang.proofs.Modes.{too_great_a_front}
use Rattle.script_lang.proofs.numbers.octal.Goals as goal

pub returns-then-value-gt511 : goal.returns-then-value-gt511
returns-then-value-gt511 c = too_great_a_front _ _ _ _ _ c.loop-digit-test.true c.saturating_sub.ensures c.if-value-gt511.true c.loop-digit.invariant.1
