use Rattle.std.proofs.Common.{◌≡◌, map, take}
use Rattle.run_report.specs.Reports.{shown_heal}
use Rattle.run_report.proofs.reports.heals.Given as goal

abbrev pub invariant-loop-copy : goal.invariant-loop-copy
invariant-loop-copy l = l.shown ≡ map (shown_heal l.names) (take l.copy-index l.copies)
