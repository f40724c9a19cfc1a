use Rattle.report_text.proofs.Hex.{text_alone, text_with_digit}
use Rattle.std.proofs.Common.{arith}
use Rattle.report_text.proofs.text.Text.+hex.Goals as goal

pub returns-then-count-eq0 : goal.returns-then-count-eq0
returns-then-count-eq0 t c = text_alone _ _ c.args.number c.if-count-eq0.true

pub returns : goal.returns
returns t c = text_with_digit _ _ _ _ c.args.number _ (omega arith) c.in_ok-hex.ensures (c.hex_digit.ensures) c.in_ok-put.ensures
