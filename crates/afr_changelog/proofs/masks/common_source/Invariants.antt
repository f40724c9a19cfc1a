-- A bit is 1 exactly where it is 1 in the first mask and in all masks so far.
use Rattle.std.proofs.Common.{◌≡◌, ℕ, ◌↔◌}
use Rattle.std.specs.Int.{bit_at}
use Rattle.afr_changelog.proofs.CommonBits.{AreNaming}
use Rattle.afr_changelog.proofs.masks.common_source.Given as goal

abbrev pub invariant-loop-mask : goal.invariant-loop-mask
invariant-loop-mask l = (j : ℕ) → (bit_at l.common j ≡ 1) ↔ ((bit_at l.initial.common j ≡ 1) × AreNaming l.masks l.mask-index j)
