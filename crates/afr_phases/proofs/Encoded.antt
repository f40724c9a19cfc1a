-- What the encoding of a request rests on: masks are small, and cells of a list have what each has.
use Rattle.std.proofs.Common.{◌≡◌, ℕ, zero, suc, ◌+◌, ◌*◌, ◌≤◌, Bool, true, false, List, [], ◌∷◌, Option, Some, None, subst, arith}
use Rattle.std.specs.Prelude.{slice_get}
use Rattle.fop_types.specs.Bounds.{Each, IsMask}
use Rattle.afr_phases.specs.Flags.{bit, flag, mask_of}

bit_small : (b : Bool) → bit b ≤ 1
bit_small true = omega arith
bit_small false = omega arith

pub mask_small : (flags : List Bool) → IsMask (mask_of flags)
mask_small flags = omega (arith, bit_small (flag flags 0), bit_small (flag flags 1), bit_small (flag flags 2), bit_small (flag flags 3), bit_small (flag flags 4))

pub each_at : {A : Type 0} (P : A → Type 0) (xs : List A) (i : ℕ) (x : A) → Each P xs → slice_get xs i ≡ Some x → P x
each_at P [] i x h e = absurd cc
each_at P (y ∷ ys) zero x h e = let same : y ≡ x = cc in subst P same h.0
each_at P (y ∷ ys) (suc i) x h e = each_at P ys i x h.1 e
