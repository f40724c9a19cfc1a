use Rattle.std.proofs.Common.{◌≡◌, ◌+◌, ◌-◌, ◌++◌, length}
use Rattle.std.specs.List.{range_with_len}
use Rattle.run_report.specs.Reports.{shown_numbers, shown_calls}
use Rattle.run_report.proofs.reports.calls.Given as goal

abbrev pub invariant-loop-index : goal.invariant-loop-index
invariant-loop-index l =
    l.shown ++ shown_numbers l.names l.replies (range_with_len (l.index + 1) (length l.replies - l.index)) ≡ shown_calls l.names l.replies
