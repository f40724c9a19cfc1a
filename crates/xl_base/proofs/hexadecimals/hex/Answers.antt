use Rattle.std.proofs.Common.{sym, ◌∙◌}
use Rattle.xl_base.proofs.Pairs.{all_pairs}
use Rattle.xl_base.proofs.hexadecimals.hex.Goals as goal

pub returns : goal.returns
returns c = all_pairs _ _ _ (sym c.are_hex_digits.ensures ∙ c.if-not-are_hex_digits.false) c.if-word-ne0.false c.loop-at-test.false c.loop-at.invariant.1
