use Rattle.std.proofs.Common.{◌≡◌, ◌≤◌, ◌+◌, drop}
use Rattle.mount_log.specs.Logs.{submits_in}
use Rattle.log_audit.proofs.ended.count_submits.Given as goal

abbrev pub invariant-loop-event : goal.invariant-loop-event
invariant-loop-event l = (l.count + submits_in (drop l.event-index l.events) ≡ submits_in l.events) × (l.count ≤ l.event-index)
