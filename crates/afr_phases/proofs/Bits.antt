-- The bits of the number that truths make.
use Rattle.std.proofs.Common.{◌≡◌, ℕ, zero, suc, ◌+◌, ◌*◌, ◌/◌, ◌%◌, ◌<◌, Bool, true, false, ◌==◌, List, [], ◌∷◌, refl, ap, ◌∙◌, arith}
use Rattle.std.specs.Int.{bit_at}
use Rattle.std.proofs.lemmas.Nat.Bits.{bit_at_lowest, bit_at-suc, bit_at-zero}
use Rattle.afr_phases.specs.Flags.{flag, flags_by, bit, number_of, names, mask_of}

lowest_bit : (b : Bool) (m : ℕ) → (bit b + 2 * m) % 2 ≡ bit b
lowest_bit true m = omega arith
lowest_bit false m = omega arith

other_bits : (b : Bool) (m : ℕ) → (bit b + 2 * m) / 2 ≡ m
other_bits true m = omega arith
other_bits false m = omega arith

bit_is : (b : Bool) → (bit b == 1) ≡ b
bit_is true = refl
bit_is false = refl

named_at : (flags : List Bool) (k : ℕ) → (bit_at (number_of flags) k == 1) ≡ flag flags k
named_at [] k = ap (λ n. n == 1) (bit_at-zero k)
named_at (b ∷ bs) zero = ap (λ n. n == 1) (bit_at_lowest (bit b + 2 * number_of bs) ∙ lowest_bit b (number_of bs)) ∙ bit_is b
named_at (b ∷ bs) (suc k) = ap (λ n. n == 1) (bit_at-suc (bit b + 2 * number_of bs) k ∙ ap (λ n. bit_at n k) (other_bits b (number_of bs))) ∙ named_at bs k

five : (flags : List Bool) (k : ℕ) → k < 5 → flag (flags_by (flag flags)) k ≡ flag flags k
five flags zero h = refl
five flags (suc zero) h = refl
five flags (suc (suc zero)) h = refl
five flags (suc (suc (suc zero))) h = refl
five flags (suc (suc (suc (suc zero)))) h = refl
five flags (suc (suc (suc (suc (suc k))))) h = absurd (omega arith)

-- the mask of truths names those that are true
pub named : (flags : List Bool) (k : ℕ) → k < 5 → names (mask_of flags) k ≡ flag flags k
named flags k h = named_at (flags_by (flag flags)) k ∙ five flags k h
