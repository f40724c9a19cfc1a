use Rattle.std.proofs.Common.{◌≡◌, take}
use Rattle.run_report.proofs.reports.skips.Given as goal

abbrev pub invariant-loop-skip : goal.invariant-loop-skip
invariant-loop-skip l = l.shown ≡ take l.skip-index l.skipped
