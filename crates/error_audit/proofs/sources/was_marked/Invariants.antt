use Rattle.std.specs.Prelude.{ℕ, Contains, take}
use Rattle.error_audit.specs.Showing.{IsMarkedAt}
use Rattle.error_audit.proofs.sources.was_marked.Given as goal

abbrev pub invariant-loop-at : goal.invariant-loop-at
invariant-loop-at l = (at : ℕ) → Contains (take l.at-index l.marks) at → IsMarkedAt l.log l.plan l.phase.from l.phase.cells at → ⊥
