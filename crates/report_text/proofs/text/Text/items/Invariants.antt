use Rattle.std.proofs.Common.{◌≡◌, ◌++◌, take, flat_map}
use Rattle.report_text.specs.AnswerText.{item_text}
use Rattle.report_text.proofs.text.Text.items.Given as goal

abbrev pub invariant-loop-item : goal.invariant-loop-item
invariant-loop-item l = l.self ≡ l.initial.self ++ flat_map item_text (take l.item-index l.items)
