use Rattle.std.proofs.Common.{◌≡◌, map, take}
use Rattle.run_report.specs.Reports.{shown_row}
use Rattle.run_report.proofs.errors.rows.Given as goal

abbrev pub invariant-loop-one : goal.invariant-loop-one
invariant-loop-one l = l.shown ≡ map (shown_row l.names l.replicas) (take l.one-index l.split)
