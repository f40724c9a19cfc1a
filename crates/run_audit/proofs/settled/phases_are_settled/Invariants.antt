use Rattle.std.specs.Prelude.{ℕ, ◌<◌}
use Rattle.run_audit.specs.Counting.{IsSettled}
use Rattle.run_audit.specs.Noted.{ended_at}
use Rattle.run_audit.proofs.settled.phases_are_settled.Given as goal

abbrev pub invariant-loop-phase : goal.invariant-loop-phase
invariant-loop-phase l = (p : ℕ) → p < l.phase → IsSettled l.script l.numbers p (ended_at l.ended l.last p)
