use Rattle.std.proofs.Common.{◌≡◌, drop}
use Rattle.log_audit.specs.Slots.{are_closed}
use Rattle.log_audit.proofs.slots.Slots.are_closed.Given as goal

abbrev pub invariant-loop-last : goal.invariant-loop-last
invariant-loop-last l = are_closed (drop l.last-index l.self) ≡ are_closed l.self
