-- What the bits of a word say of a set of small numbers.
use Rattle.std.proofs.Common.{◌≡◌, ℕ, zero, suc, ◌+◌, ◌-◌, ◌*◌, ◌/◌, ◌^◌, ◌<◌, ◌≤◌, inl, inr, min, max, Bool, true, false, ◌&&◌, ◌||◌, not, nat_eq, nat_lt, ◌==◌, if◌then◌else◌, List, [], ◌∷◌, length, slice_get, Option, Some, None, bit_and, bit_or, refl, sym, ap, ◌∙◌, arith, pow_pos, shr-shr, lt-ltb, le-ltb, ltb-true, ltb-false, eq-eqb, ne_eqb, div-one}
use native.Mathlib.Nat.{div-eq_of_lt}
use lib.Count.{ones, ones_step}
use Rattle.std.proofs.lemmas.Bool.{cases_eq, cases_lt, and_right}
use Rattle.std.proofs.lemmas.Nat.{pow_below}
use Rattle.std.proofs.lemmas.Nat.Bits.{bit_at_and, bit_at_or, bit_at_not, bit_at-lt, bit_at-zero, bit_at-pow_same, bit_at-pow_other, and_pow}
use Rattle.std.specs.Int.{bit_at, w64}
use Rattle.std.specs.Int.Bits.{and_zero_r}
use Rattle.hub_tables.specs.SmallSets.{bit_of, has, with_number, numbers, numbers_from}
use Rattle.hub_tables.specs.declared.small_set.SmallSet.{SmallSet}

-- ---- one bit

digit_test : (d p : ℕ) → d < 2 → 0 < p → not (nat_eq (d * p) 0) ≡ (d == 1)
digit_test zero p few some = let e : 0 * p ≡ 0 = omega arith in ap (λ (x : ℕ). not (nat_eq x 0)) e
digit_test (suc zero) zero few some = absurd (omega arith)
digit_test (suc zero) (suc p) few some = ap not (ne_eqb (1 * suc p) 0 (λ e. omega (arith, e)))
digit_test (suc (suc d)) p few some = absurd (omega arith)

has_by : (low : Bool) (bits n : ℕ) → not (nat_eq (bit_and bits (if low then 2 ^ n else 0)) 0) ≡ (low && (bit_at bits n == 1))
has_by true bits n = ap (λ (x : ℕ). not (nat_eq x 0)) (and_pow bits n) ∙ digit_test (bit_at bits n) (2 ^ n) (bit_at-lt bits n) (pow_pos n)
has_by false bits n = ap (λ (x : ℕ). not (nat_eq x 0)) (and_zero_r bits)

pub has_bit : (bits n : ℕ) → not (nat_eq (bit_and bits (bit_of n)) 0) ≡ (nat_lt n 64 && (bit_at bits n == 1))
has_bit bits n = has_by (nat_lt n 64) bits n

abbrev one_if : Bool → ℕ
one_if b = if b then 1 else 0

bit_by : (low : Bool) (n k : ℕ) → (low ≡ false → k < n) → bit_at (if low then 2 ^ n else 0) k ≡ one_if (n == k)
bit_by true n k h = elim (cases_eq n k) [
  | inl e ↦ ap (bit_at (2 ^ n)) (sym e) ∙ bit_at-pow_same n ∙ sym (ap one_if (eq-eqb n k e))
  | inr d ↦ bit_at-pow_other n k (λ s. d (sym s)) ∙ sym (ap one_if (ne_eqb n k d))
]
bit_by false n k h = let l : k < n = h refl in bit_at-zero k ∙ sym (ap one_if (ne_eqb n k (λ e. omega arith)))

bit_of_at : (n k : ℕ) → k < 64 → bit_at (bit_of n) k ≡ one_if (n == k)
bit_of_at n k l = bit_by (nat_lt n 64) n k (λ f. omega (arith, ltb-false n 64 f))

bit_fits : (low : Bool) (n : ℕ) → (low ≡ true → n < 64) → (if low then 2 ^ n else 0) < 2 ^ 64
bit_fits true n h = pow_below n 64 (h refl)
bit_fits false n h = pow_pos 64

-- ---- one more, and one less

max_test : (e : Bool) (d : ℕ) → d < 2 → (max d (one_if e) == 1) ≡ (e || (d == 1))
max_test true zero few = refl
max_test true (suc zero) few = refl
max_test true (suc (suc d)) few = absurd (omega arith)
max_test false zero few = refl
max_test false (suc zero) few = refl
max_test false (suc (suc d)) few = absurd (omega arith)

min_test : (e : Bool) (d : ℕ) → d < 2 → (min d (1 - one_if e) == 1) ≡ (not e && (d == 1))
min_test true zero few = refl
min_test true (suc zero) few = refl
min_test true (suc (suc d)) few = absurd (omega arith)
min_test false zero few = refl
min_test false (suc zero) few = refl
min_test false (suc (suc d)) few = absurd (omega arith)

pub adds_bit : (bits n k : ℕ) → k < 64 → (nat_lt k 64 && (bit_at (bit_or bits (bit_of n)) k == 1)) ≡ ((n == k) || (nat_lt k 64 && (bit_at bits k == 1)))
adds_bit bits n k l =
    let low : nat_lt k 64 ≡ true = lt-ltb k 64 l in
    let is : bit_at (bit_or bits (bit_of n)) k ≡ max (bit_at bits k) (one_if (n == k)) = bit_at_or bits (bit_of n) k ∙ ap (max (bit_at bits k)) (bit_of_at n k l) in
    ap (λ (b : Bool). b && (bit_at (bit_or bits (bit_of n)) k == 1)) low ∙ ap (λ (x : ℕ). x == 1) is
    ∙ max_test (n == k) (bit_at bits k) (bit_at-lt bits k) ∙ sym (ap (λ (b : Bool). (n == k) || (b && (bit_at bits k == 1))) low)

drops_below : (bits n k : ℕ) → k < 64 → (nat_lt k 64 && (bit_at (bit_and bits (18446744073709551615 - bit_of n)) k == 1)) ≡ (not (n == k) && (nat_lt k 64 && (bit_at bits k == 1)))
drops_below bits n k l =
    let low : nat_lt k 64 ≡ true = lt-ltb k 64 l in
    let fits : bit_of n < 2 ^ 64 = bit_fits (nat_lt n 64) n (ltb-true n 64) in
    let other : bit_at (18446744073709551615 - bit_of n) k ≡ 1 - one_if (n == k) = bit_at_not w64 (bit_of n) k fits l ∙ ap (λ (x : ℕ). 1 - x) (bit_of_at n k l) in
    let is : bit_at (bit_and bits (18446744073709551615 - bit_of n)) k ≡ min (bit_at bits k) (1 - one_if (n == k)) = bit_at_and bits (18446744073709551615 - bit_of n) k ∙ ap (min (bit_at bits k)) other in
    ap (λ (b : Bool). b && (bit_at (bit_and bits (18446744073709551615 - bit_of n)) k == 1)) low ∙ ap (λ (x : ℕ). x == 1) is
    ∙ min_test (n == k) (bit_at bits k) (bit_at-lt bits k) ∙ sym (ap (λ (b : Bool). not (n == k) && (b && (bit_at bits k == 1))) low)

drops_above : (one other : ℕ) (e high : Bool) → high ≡ false → (high && (one == 1)) ≡ (e && (high && (other == 1)))
drops_above one other e high h = ap (λ (b : Bool). b && (one == 1)) h ∙ sym (and_right e false refl) ∙ sym (ap (λ (b : Bool). e && (b && (other == 1))) h)

pub drops_bit : (bits n k : ℕ) → (nat_lt k 64 && (bit_at (bit_and bits (18446744073709551615 - bit_of n)) k == 1)) ≡ (not (n == k) && (nat_lt k 64 && (bit_at bits k == 1)))
drops_bit bits n k = elim (cases_lt k 64) [
  | inl l ↦ drops_below bits n k l
  | inr g ↦ drops_above (bit_at (bit_and bits (18446744073709551615 - bit_of n)) k) (bit_at bits k) (not (n == k)) (nat_lt k 64) (le-ltb k 64 g)
]

-- ---- the numbers

count_one : (d n : ℕ) (ns : List ℕ) → d < 2 → length (with_number (d == 1) n ns) ≡ d + length ns
count_one zero n ns few = omega arith
count_one (suc zero) n ns few = omega arith
count_one (suc (suc d)) n ns few = absurd (omega arith)

counted : (s : SmallSet) (more n : ℕ) → n + more ≡ 64 → s.0 < 2 ^ 64 → length (numbers_from s n more) ≡ ones (s.0 / 2 ^ n)
unfolding ones numbers_from
counted s zero n at fits =
    let e : n ≡ 64 = omega arith in
    let z : s.0 / 2 ^ n ≡ 0 = ap (λ (j : ℕ). s.0 / 2 ^ j) e ∙ div-eq_of_lt fits in
    ap ones (sym z)
counted s (suc more) n at fits =
    let low : nat_lt n 64 ≡ true = lt-ltb n 64 (omega arith) in
    let half : s.0 / 2 ^ (n + 1) ≡ s.0 / 2 ^ n / 2 = sym (shr-shr s.0 n 1) in
    ap (λ (b : Bool). length (with_number (b && (bit_at s.0 n == 1)) n (numbers_from s (n + 1) more))) low
    ∙ count_one (bit_at s.0 n) n (numbers_from s (n + 1) more) (bit_at-lt s.0 n)
    ∙ ap (λ (m : ℕ). bit_at s.0 n + m) (counted s more (n + 1) (omega arith) fits ∙ ap ones half)
    ∙ sym (ones_step (s.0 / 2 ^ n))

pub ones_numbers : (s : SmallSet) → s.0 < 2 ^ 64 → ones s.0 ≡ length (numbers s)
ones_numbers s fits = ap ones (sym (div-one s.0)) ∙ sym (counted s 64 0 refl fits)

step : (s : SmallSet) (n : ℕ) → n < 64 → numbers_from s n (64 - n) ≡ with_number (has s n) n (numbers_from s (n + 1) (64 - (n + 1)))
unfolding numbers_from
step s n l = let e : 64 - n ≡ suc (64 - (n + 1)) = omega arith in ap (numbers_from s n) e

pub nth_found : (s : SmallSet) (n i : ℕ) → n < 64 → has s n ≡ true → i ≡ 0 → slice_get (numbers_from s n (64 - n)) i ≡ Some n
nth_found s n i l is at =
    ap (slice_get (numbers_from s n (64 - n))) at
    ∙ ap (λ (ns : List ℕ). slice_get ns 0) (step s n l ∙ ap (λ (b : Bool). with_number b n (numbers_from s (n + 1) (64 - (n + 1)))) is)

pub nth_next : (s : SmallSet) (n i : ℕ) → n < 64 → has s n ≡ true → 0 < i → slice_get (numbers_from s n (64 - n)) i ≡ slice_get (numbers_from s (n + 1) (64 - (n + 1))) (i - 1)
nth_next s n zero l is some = absurd (omega arith)
nth_next s n (suc i) l is some =
    let e : i ≡ suc i - 1 = omega arith in
    ap (λ (ns : List ℕ). slice_get ns (suc i)) (step s n l ∙ ap (λ (b : Bool). with_number b n (numbers_from s (n + 1) (64 - (n + 1)))) is)
    ∙ ap (slice_get (numbers_from s (n + 1) (64 - (n + 1)))) e

pub nth_skips : (s : SmallSet) (n i : ℕ) → n < 64 → has s n ≡ false → slice_get (numbers_from s n (64 - n)) i ≡ slice_get (numbers_from s (n + 1) (64 - (n + 1))) i
nth_skips s n i l not_is = ap (λ (ns : List ℕ). slice_get ns i) (step s n l ∙ ap (λ (b : Bool). with_number b n (numbers_from s (n + 1) (64 - (n + 1)))) not_is)

pub nth_ends : (s : SmallSet) (n i : ℕ) → 64 ≤ n → slice_get (numbers_from s n (64 - n)) i ≡ None
unfolding numbers_from
nth_ends s n i past = let e : 64 - n ≡ 0 = omega arith in ap (λ (m : ℕ). slice_get (numbers_from s n m) i) e
