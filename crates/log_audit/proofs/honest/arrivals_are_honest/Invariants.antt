use Rattle.std.proofs.Common.{ℕ, ◌<◌}
use Rattle.log_audit.specs.Arriving.{AreTimely}
use Rattle.log_audit.proofs.honest.arrivals_are_honest.Given as goal

abbrev pub invariant-loop-brick : goal.invariant-loop-brick
invariant-loop-brick l = (k : ℕ) → k < l.brick → AreTimely k l.log.events l.log.sent
