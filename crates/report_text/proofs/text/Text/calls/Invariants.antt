use Rattle.std.proofs.Common.{◌≡◌, ◌++◌, take, flat_map}
use Rattle.report_text.specs.ReportText.{call_line}
use Rattle.report_text.proofs.text.Text.calls.Given as goal

abbrev pub invariant-loop-call : goal.invariant-loop-call
invariant-loop-call l = l.self ≡ l.initial.self ++ flat_map call_line (take l.call-index l.calls)
