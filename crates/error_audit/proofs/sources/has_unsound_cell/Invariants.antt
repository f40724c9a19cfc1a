use Rattle.std.specs.Prelude.{ℕ, Contains, take}
use Rattle.mount_log.specs.Causes.{IsSoundAt}
use Rattle.error_audit.proofs.sources.has_unsound_cell.Given as goal

abbrev pub invariant-loop-place : goal.invariant-loop-place
invariant-loop-place l = (place : ℕ) → Contains (take l.place-index l.places) place → ((k : ℕ) → IsSoundAt l.plan l.shown k place → ⊥) → ⊥
