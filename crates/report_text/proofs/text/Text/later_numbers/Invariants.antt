use Rattle.std.proofs.Common.{◌≡◌, ◌++◌, take, flat_map}
use Rattle.report_text.specs.Words.{after_comma}
use Rattle.report_text.proofs.text.Text.later_numbers.Given as goal

abbrev pub invariant-loop-number : goal.invariant-loop-number
invariant-loop-number l = l.self ≡ l.initial.self ++ flat_map after_comma (take l.number-index l.numbers)
