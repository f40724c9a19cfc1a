use Rattle.std.proofs.Common.{sym, ◌∙◌}
use Rattle.xl_base.proofs.Numbers.{next_digit, too_large, all_digits}
use Rattle.xl_base.proofs.decimals.number.Goals as goal

pub loop-digit-preserved : goal.loop-digit-preserved
loop-digit-preserved c = next_digit _ _ _ _ _ c.loop-digit-test.true (sym c.in-Some.is ∙ c.with_digit.ensures) c.loop-digit.invariant.1

pub returns-in-None : goal.returns-in-None
returns-in-None c = too_large _ _ _ _ c.loop-digit-test.true (sym c.in-None.is ∙ c.with_digit.ensures) c.loop-digit.invariant.1

pub returns : goal.returns
returns c = all_digits _ _ _ c.loop-digit-test.false c.loop-digit.invariant.0 c.loop-digit.invariant.1
