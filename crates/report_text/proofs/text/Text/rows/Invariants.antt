use Rattle.std.proofs.Common.{◌≡◌, ◌++◌, take, flat_map}
use Rattle.report_text.specs.AnswerText.{row_text}
use Rattle.report_text.proofs.text.Text.rows.Given as goal

abbrev pub invariant-loop-row : goal.invariant-loop-row
invariant-loop-row l = l.self ≡ l.initial.self ++ flat_map row_text (take l.row-index l.rows)
