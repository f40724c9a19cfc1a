use Rattle.std.proofs.Common.{ℕ, ◌<◌, ◌≡◌}
use Rattle.std.specs.Prelude.{Some, slice_get}
use Rattle.afr_changelog.specs.Masks.{Names}
use Rattle.change_audit.proofs.sources.has_brick.Given as goal

abbrev pub invariant-loop-replica : goal.invariant-loop-replica
invariant-loop-replica l = (r : ℕ) → r < l.replica → slice_get l.plan.bricks r ≡ Some l.brick → Names l.mask r → ⊥
