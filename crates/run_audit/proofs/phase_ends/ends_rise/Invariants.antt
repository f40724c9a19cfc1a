use Rattle.std.specs.Prelude.{ℕ, ◌<◌, ◌≤◌, ◌+◌}
use Rattle.run_audit.specs.Noted.{ended_at}
use Rattle.run_audit.proofs.phase_ends.ends_rise.Given as goal

abbrev pub invariant-loop-phase : goal.invariant-loop-phase
invariant-loop-phase l = (p : ℕ) → p < l.phase → ended_at l.ended l.last p ≤ ended_at l.ended l.last (p + 1)
