use Rattle.std.proofs.Common.{◌≡◌, ◌++◌, take, flat_map}
use Rattle.report_text.specs.ReportText.{heal_line}
use Rattle.report_text.proofs.text.Text.heals.Given as goal

abbrev pub invariant-loop-heal : goal.invariant-loop-heal
invariant-loop-heal l = l.self ≡ l.initial.self ++ flat_map heal_line (take l.heal-index l.heals)
