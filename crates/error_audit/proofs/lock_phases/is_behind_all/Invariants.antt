use Rattle.std.specs.Prelude.{ℕ, ◌≡◌, ◌<◌, Some, slice_get}
use Rattle.error_audit.proofs.lock_phases.is_behind_all.Given as goal

abbrev pub invariant-loop-high : goal.invariant-loop-high
invariant-loop-high l = (i brick : ℕ) → i < l.high → slice_get l.bricks i ≡ Some brick → brick ≡ l.other → l.low < i
