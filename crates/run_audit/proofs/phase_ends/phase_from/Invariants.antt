use Rattle.std.specs.Prelude.{ℕ, ◌≤◌, ◌<◌, ◌-◌, length}
use Rattle.run_audit.specs.Noted.{ended_at}
use Rattle.run_audit.proofs.phase_ends.phase_from.Given as goal

abbrev pub invariant-loop-phase : goal.invariant-loop-phase
invariant-loop-phase l = (l.from ≤ l.phase) × (l.from < l.phase → ended_at l.ended l.last (l.phase - 1) < l.number)

abbrev pub decreases-loop-phase : goal.decreases-loop-phase
decreases-loop-phase l = length l.ended - l.phase
