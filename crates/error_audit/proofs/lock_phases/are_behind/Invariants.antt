use Rattle.std.specs.Prelude.{ℕ, ◌≡◌, ◌<◌, Some, slice_get}
use Rattle.error_audit.proofs.lock_phases.are_behind.Given as goal

abbrev pub invariant-loop-low : goal.invariant-loop-low
invariant-loop-low l = (i brick : ℕ) → i < l.low → slice_get l.bricks i ≡ Some brick → brick ≡ l.one → (high : ℕ) → slice_get l.bricks high ≡ Some l.other → i < high
