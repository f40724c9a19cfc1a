use Rattle.std.proofs.Common.{◌≡◌, ◌≤◌, ◌+◌, drop}
use Rattle.std.specs.Prelude.{length}
use Rattle.mount_log.specs.Graphs.{switches_in}
use Rattle.run_report.proofs.limits.count_switches.Given as goal

abbrev pub invariant-loop-event : goal.invariant-loop-event
invariant-loop-event l = (l.count + length (switches_in (drop l.event-index l.events)) ≡ length (switches_in l.events)) × (l.count ≤ l.event-index)
