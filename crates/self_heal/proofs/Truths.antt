-- How many replicas it is true of.
use Rattle.std.proofs.Common.{◌≡◌, ℕ, zero, suc, ◌+◌, ◌≤◌, Bool, true, false, ◌==◌, List, [], ◌∷◌, refl, sym, ap, arith, slice_set}
use Rattle.std.proofs.lemmas.Bool.{eqb-true, true≢false}
use Rattle.afr_phases.specs.Flags.{flag, flags_by, bit}
pub use Rattle.afr_phases.proofs.Asked.{each_sent}
pub use Rattle.afr_phases.proofs.Truths.{flags_at, below_five, flags_have, both_left, both_right, both_have, lowest_is}
use Rattle.self_heal.specs.Runs.{only}
use Rattle.self_heal.specs.Work.{count}

pub only_at : (from k : ℕ) → flag (only from) k ≡ true → k ≡ from
only_at from k h = sym (eqb-true from k (flags_at (λ j. from == j) k h))

-- ---- how many

bit_below : (a b : Bool) → (a ≡ true → b ≡ true) → bit a ≤ bit b
bit_below true true h = omega arith
bit_below true false h = absurd (true≢false (sym (h refl)))
bit_below false b h = omega arith

bit_one : (b : Bool) → b ≡ true → bit b ≡ 1
bit_one b h = ap bit h

bit_none : (b : Bool) → b ≡ false → bit b ≡ 0
bit_none b h = ap bit h

bit_small : (b : Bool) → bit b ≤ 1
bit_small true = omega arith
bit_small false = omega arith

pub count_below : (xs ys : List Bool) → ((j : ℕ) → flag xs j ≡ true → flag ys j ≡ true) → count xs ≤ count ys
count_below [] ys h = omega arith
count_below (x ∷ xs) [] h =
    let none : bit x ≤ bit false = bit_below x false (h 0) in omega (arith, count_below xs [] (λ j. h (suc j)))
count_below (x ∷ xs) (y ∷ ys) h =
    let first : bit x ≤ bit y = bit_below x y (h 0) in omega (arith, count_below xs ys (λ j. h (suc j)))

pub count_some : (xs : List Bool) (k : ℕ) → flag xs k ≡ true → 1 ≤ count xs
count_some [] k h = absurd cc
count_some (x ∷ xs) zero h = let one : bit x ≡ 1 = bit_one x h in omega arith
count_some (x ∷ xs) (suc k) h = omega (arith, count_some xs k h)

pub count_less : (xs ys : List Bool) → ((j : ℕ) → flag xs j ≡ true → flag ys j ≡ true) → (k : ℕ) → flag ys k ≡ true → flag xs k ≡ false → count xs + 1 ≤ count ys
count_less [] ys h k i missing = omega (arith, count_some ys k i)
count_less (x ∷ xs) [] h k i missing = absurd cc
count_less (x ∷ xs) (y ∷ ys) h zero i missing =
    let one : bit y ≡ 1 = bit_one y i in let none : bit x ≡ 0 = bit_none x missing in omega (arith, count_below xs ys (λ j. h (suc j)))
count_less (x ∷ xs) (y ∷ ys) h (suc k) i missing =
    let first : bit x ≤ bit y = bit_below x y (h 0) in omega (arith, count_less xs ys (λ j. h (suc j)) k i missing)

pub count_five : (p : ℕ → Bool) → count (flags_by p) ≤ 5
count_five p = omega (arith, bit_small (p 0), bit_small (p 1), bit_small (p 2), bit_small (p 3), bit_small (p 4))

-- one who was asked has answered
pub count_taken : (xs : List Bool) (k : ℕ) → flag xs k ≡ true → count (slice_set xs k false) + 1 ≡ count xs
count_taken [] k h = absurd cc
count_taken (x ∷ xs) zero h = let one : bit x ≡ 1 = bit_one x h in omega arith
count_taken (x ∷ xs) (suc k) h = omega (arith, count_taken xs k h)

other_bit : (a b : ℕ) → (a ≡ b → ⊥) → bit (a == b) ≡ 0
other_bit a b other = by (a == b) refl where
  by : (x : Bool) → (a == b) ≡ x → bit x ≡ 0
  by true e = absurd (other (eqb-true a b e))
  by false e = refl

pub count_only : (k : ℕ) → count (only k) ≤ 1
count_only zero = omega arith
count_only (suc zero) = omega arith
count_only (suc (suc zero)) = omega arith
count_only (suc (suc (suc zero))) = omega arith
count_only (suc (suc (suc (suc zero)))) = omega arith
count_only (suc (suc (suc (suc (suc k))))) =
    let n = suc (suc (suc (suc (suc k)))) in
    omega (arith, other_bit n 0 (λ e. omega (arith, e)), other_bit n 1 (λ e. omega (arith, e)), other_bit n 2 (λ e. omega (arith, e)), other_bit n 3 (λ e. omega (arith, e)), other_bit n 4 (λ e. omega (arith, e)))
