use Rattle.std.proofs.Common.{◌≡◌, ◌≤◌, ◌++◌, length, take, drop}
use Rattle.mount_log.specs.Arrivals.{inputs_to}
use Rattle.log_audit.proofs.bricks.was_sent.Given as goal

abbrev pub invariant-loop-line : goal.invariant-loop-line
invariant-loop-line l = (l.at ≤ length l.journal) × (take l.at l.journal ++ inputs_to l.brick (drop l.line-index l.sent) ≡ inputs_to l.brick l.sent)
