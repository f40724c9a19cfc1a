use Rattle.std.proofs.Common.{◌≡◌, map, take}
use Rattle.run_report.specs.Reports.{shown_entry}
use Rattle.run_report.proofs.reports.history.Given as goal

abbrev pub invariant-loop-entry : goal.invariant-loop-entry
invariant-loop-entry l = l.shown ≡ map shown_entry (take l.entry-index l.entries)
