use Rattle.std.proofs.Common.{arith}
use Rattle.report_text.proofs.Octal.{text_with_octal}
use Rattle.report_text.proofs.text.Text.+octal.Goals as goal

pub returns : goal.returns
returns t c = text_with_octal _ _ _ c.args.number c.if-number-lt8.false (omega arith) c.in_ok-octal.ensures c.in_ok-put-2.ensures
