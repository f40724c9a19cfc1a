use Rattle.std.specs.Prelude.{ℕ, Contains, take}
use Rattle.afr_changelog.specs.Masks.{IsCommon}
use Rattle.mount_log.specs.Causes.{IsSoundAt}
use Rattle.error_audit.proofs.sources.masks_at.Given as goal

abbrev pub invariant-loop-place : goal.invariant-loop-place
invariant-loop-place l = record {
  common : (k : ℕ) → ((place : ℕ) → Contains l.places place → IsSoundAt l.plan l.shown k place) → IsCommon l.masks.items k;
  sound : (k : ℕ) → IsCommon l.masks.items k → (place : ℕ) → Contains (take l.place-index l.places) place → IsSoundAt l.plan l.shown k place;
}
