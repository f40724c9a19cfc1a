use Rattle.std.proofs.Common.{◌≡◌, ◌≤◌, ◌+◌, drop}
use Rattle.mount_log.specs.Winds.{openings}
use Rattle.run_report.proofs.summaries.opened_in.Given as goal

abbrev pub invariant-loop-wind : goal.invariant-loop-wind
invariant-loop-wind l = (l.count + openings (drop l.wind-index l.winds) ≡ openings l.winds) × (l.count ≤ l.wind-index)
