use Rattle.std.proofs.Common.{◌≡◌, map, take}
use Rattle.run_report.specs.Reports.{shown_item}
use Rattle.run_report.proofs.reports.items.Given as goal

abbrev pub invariant-loop-item : goal.invariant-loop-item
invariant-loop-item l = l.shown ≡ map shown_item (take l.item-index l.items)
