use Rattle.std.proofs.Common.{◌≡◌, ◌+◌, ◌-◌, ℕ, length}
use Rattle.log_audit.specs.Slots.{slot_at}
use Rattle.log_audit.proofs.slots.Slots.grow.Given as goal

abbrev pub invariant-loop-self : goal.invariant-loop-self
invariant-loop-self l = (n : ℕ) → slot_at l.self-inside.turns.items n ≡ slot_at l.fn.self n

abbrev pub decreases-loop-self : goal.decreases-loop-self
decreases-loop-self l = l.slot + 1 - length l.self-inside.turns.items
