-- Numbers in decimal digits.
use Rattle.std.proofs.Common.{◌≡◌, ℕ, zero, suc, ◌+◌, ◌-◌, ◌*◌, ◌^◌, ◌<◌, ◌≤◌, List, ◌∷◌, length, drop, Some, None, get_or, arith, ap, ◌∙◌, sym, lit≤}
use Rattle.std.proofs.Math.Nat.{add-mul, mul_assoc, mul_comm, pow-suc, mul-suc}
use Rattle.std.proofs.lemmas.List.{drop_more, drop_all}
use Rattle.std.proofs.lemmas.Bool.Decides.{nat_tests}
use Rattle.xl_base.specs.Words.{number_of, fitting}

power_positive : (n : ℕ) → 1 ≤ 10 ^ n
power_positive zero = lit≤ tt
power_positive (suc n) = omega (arith, pow-suc 10 n, power_positive n)

grows : (v p : ℕ) → 1 ≤ p → v ≤ v * p
grows v zero h = absurd (omega (arith, h))
grows v (suc q) h = omega (arith, mul-suc v q)

-- one more digit is read
one_more_digit : (value d : ℕ) (ds : List ℕ) → value * 10 ^ length (d ∷ ds) + number_of (d ∷ ds) ≡ (value * 10 + (d - 48)) * 10 ^ length ds + number_of ds
one_more_digit value d ds =
    let p = 10 ^ length ds in
    let power : value * 10 ^ length (d ∷ ds) ≡ value * 10 * p =
    ap (λ k. value * k) (pow-suc 10 (length ds) ∙ mul_comm p 10) ∙ sym (mul_assoc value 10 p) in
    omega (arith, power, add-mul (value * 10) (d - 48) p)

it_fits : (v x : ℕ) → Some x ≡ fitting v → (x ≡ v) × (x < 2 ^ 64)
it_fits v x e = grind (arith, nat_tests)

-- what was read and what is left write the whole number, one digit on
pub next_digit : (w : List ℕ) (i value next e : ℕ) → i < length w → Some next ≡ fitting (value * 10 + (get_or w i e - 48))
    → value * 10 ^ length (drop i w) + number_of (drop i w) ≡ number_of w
    → (next < 2 ^ 64) × (next * 10 ^ length (drop (i + 1) w) + number_of (drop (i + 1) w) ≡ number_of w)
next_digit w i value next e within fits whole =
    let d = get_or w i e in
    let v = value * 10 + (d - 48) in
    let is = it_fits v next fits in (
      is.1,
      ap (λ k. k * 10 ^ length (drop (i + 1) w) + number_of (drop (i + 1) w)) is.0 ∙ sym (one_more_digit value d (drop (i + 1) w))
          ∙ ap (λ l. value * 10 ^ length l + number_of l) (sym (drop_more w i e within)) ∙ whole,
    )

-- where a prefix does not fit, the number does not
pub too_large : (w : List ℕ) (i value e : ℕ) → i < length w → None ≡ fitting (value * 10 + (get_or w i e - 48))
    → value * 10 ^ length (drop i w) + number_of (drop i w) ≡ number_of w → None ≡ fitting (number_of w)
too_large w i value e within none whole =
    let d = get_or w i e in
    let v = value * 10 + (d - 48) in
    let rest = drop (i + 1) w in
    let split : v * 10 ^ length rest + number_of rest ≡ number_of w =
    sym (one_more_digit value d rest) ∙ ap (λ l. value * 10 ^ length l + number_of l) (sym (drop_more w i e within)) ∙ whole in
    still_large v (number_of w) (omega (arith, split, grows v (10 ^ length rest) (power_positive (length rest)))) none
  where
    still_large : (v n : ℕ) → v ≤ n → None ≡ fitting v → None ≡ fitting n
    still_large v n below none = grind (arith, nat_tests)

-- all digits were read
pub all_digits : (w : List ℕ) (i value : ℕ) → length w ≤ i → value < 2 ^ 64 → value * 10 ^ length (drop i w) + number_of (drop i w) ≡ number_of w → Some value ≡ fitting (number_of w)
all_digits w i value end small whole =
    let none = drop_all i w end in
    let is : value ≡ number_of w = omega (arith, ap (λ l. value * 10 ^ length l + number_of l) none, whole) in
    now (number_of w) is
  where
    now : (n : ℕ) → value ≡ n → Some value ≡ fitting n
    now n is = grind (arith, nat_tests)
