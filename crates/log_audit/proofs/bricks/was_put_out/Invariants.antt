use Rattle.std.proofs.Common.{◌≡◌, ◌≤◌, ◌++◌, length, take, drop}
use Rattle.mount_log.specs.Arrivals.{arrivals_from}
use Rattle.log_audit.proofs.bricks.was_put_out.Given as goal

abbrev pub invariant-loop-event : goal.invariant-loop-event
invariant-loop-event l = (l.at ≤ length l.outputs) × (take l.at l.outputs ++ arrivals_from l.brick (drop l.event-index l.events) ≡ arrivals_from l.brick l.events)
