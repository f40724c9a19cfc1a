-- One replica of a lock phase.
use Rattle.std.proofs.Common.{◌≡◌, ℕ, suc, ◌+◌, ◌-◌, ◌<◌, true, false, List, Option, Some, refl, arith, slice_index}
use Rattle.fop_types.specs.declared.contents.Mask.{Mask}
use Rattle.afr_phases.specs.declared.outs.Outs.{Outs}
use Rattle.afr_phases.specs.Flags.{names}
use Rattle.afr_phases.specs.Outs.{is_out, is_short, left}
use Rattle.afr_phases.specs.Locking.{next_to_lock}

one_less : (n k : ℕ) → k < n → n - k ≡ suc (n - (k + 1))
one_less n k h = omega arith

module _ (n q k : ℕ) (outs : Outs) (live : Mask) (last : List ℕ) (low : k < n) (enough : is_short outs n q ≡ false) where
  pub step_out : is_out outs k ≡ true → ◌≡◌ {A = Outs × Option ℕ} (next_to_lock (n - (k + 1)) outs n q (k + 1) live last) (next_to_lock (n - k) outs n q k live last)
  step_out o = rw (one_less n k low, enough, o) refl

  pub step_ask : is_out outs k ≡ false → names live k ≡ true → ◌≡◌ {A = Outs × Option ℕ} (outs, Some k) (next_to_lock (n - k) outs n q k live last)
  step_ask o l = rw (one_less n k low, enough, o, l) refl

  pub step_lost : is_out outs k ≡ false → names live k ≡ false → ◌≡◌ {A = Outs × Option ℕ} (next_to_lock (n - (k + 1)) (left outs k false (slice_index last k)) n q (k + 1) live last) (next_to_lock (n - k) outs n q k live last)
  step_lost o l = rw (one_less n k low, enough, o, l) refl
