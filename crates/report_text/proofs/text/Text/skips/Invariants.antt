use Rattle.std.proofs.Common.{◌≡◌, ◌++◌, take, flat_map}
use Rattle.report_text.specs.ReportText.{skip_line}
use Rattle.report_text.proofs.text.Text.skips.Given as goal

abbrev pub invariant-loop-skip : goal.invariant-loop-skip
invariant-loop-skip l = l.self ≡ l.initial.self ++ flat_map skip_line (take l.skip-index l.skips)
