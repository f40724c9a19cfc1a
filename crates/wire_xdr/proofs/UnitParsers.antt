-- What the code of a unit's reader finds is what the definition says.
use Rattle.std.specs.List.{list_all}
use Rattle.std.proofs.Common.{inl, inr, ◌≡◌, ◌<◌, ◌≤◌, ◌∷◌, ◌∙◌, ℕ, suc, zero, true, false, sym, refl, ap, List, [], length, take, drop, arith, Bool, ◌-◌, ◌+◌, Ok, Err}
use Rattle.std.specs.Prelude.{◌&&◌, nat_lt, nat_le, slice_index, slice_index_or, ◌⊎◌, if◌then◌else◌}
use Rattle.std.proofs.lemmas.List.{take_all}
use Rattle.byteorder.specs.Endian.{big_number}
use Rattle.wire_xdr.specs.declared.decode.faults.Fault.{Fault}
use Rattle.wire_xdr.specs.declared.decode.faults.Fault.TheVariants.{Wrong, Short, Memory}
use Rattle.wire_xdr.specs.Limits.{is_between}
use Rattle.wire_xdr.specs.code.Parsers.{after, done, unit_where, quad_where, is_byte, between_at}

pub unit_short : (fits : ℕ → Bool) (bytes : List ℕ) → length bytes < 4 → unit_where fits bytes ≡ Err Short
unfolding unit_where
unit_short fits [] few = refl
unit_short fits (a ∷ []) few = refl
unit_short fits (a ∷ b ∷ []) few = refl
unit_short fits (a ∷ b ∷ c ∷ []) few = refl
unit_short fits (a ∷ b ∷ c ∷ d ∷ rest) few = absurd (omega (arith, few))

nat_lt_true : (a b : ℕ) → a < b → nat_lt a b ≡ true
nat_lt_true a b h = grind (arith, h)

quad_bytes : (a b c d : ℕ) → a < 256 → b < 256 → c < 256 → d < 256 → list_all is_byte (a ∷ b ∷ c ∷ d ∷ []) ≡ true
quad_bytes a b c d ha hb hc hd = rw (nat_lt_true a 256 ha, nat_lt_true b 256 hb, nat_lt_true c 256 hc, nat_lt_true d 256 hd) refl

pub unit_fits : (fits : ℕ → Bool) (bytes : List ℕ) (n : ℕ) → 4 ≤ length bytes → ((i : ℕ) → slice_index_or bytes i 0 < 256)
    → n ≡ big_number 4 (slice_index bytes 0 ∷ slice_index bytes 1 ∷ slice_index bytes 2 ∷ slice_index bytes 3 ∷ []) → fits n ≡ true → unit_where fits bytes ≡ Ok (n, take (length bytes - 4) (drop 4 bytes))
unfolding unit_where
unit_fits fits [] n enough small is passes = absurd (omega (arith, enough))
unit_fits fits (a ∷ []) n enough small is passes = absurd (omega (arith, enough))
unit_fits fits (a ∷ b ∷ []) n enough small is passes = absurd (omega (arith, enough))
unit_fits fits (a ∷ b ∷ c ∷ []) n enough small is passes = absurd (omega (arith, enough))
unit_fits fits (a ∷ b ∷ c ∷ d ∷ rest) n enough small is passes =
    let few : length (a ∷ b ∷ c ∷ d ∷ rest) - 4 ≡ length rest = omega arith in
    let passed : fits (big_number 4 (a ∷ b ∷ c ∷ d ∷ [])) ≡ true = ap fits (sym is) ∙ passes in
    rw (quad_bytes a b c d (small 0) (small 1) (small 2) (small 3), passed, few, take_all (length rest) rest (omega arith)) (ap (λ (k : ℕ). Ok (k, rest)) (sym is))

pub unit_fails : (fits : ℕ → Bool) (bytes : List ℕ) (n : ℕ) → 4 ≤ length bytes → ((i : ℕ) → slice_index_or bytes i 0 < 256)
    → n ≡ big_number 4 (slice_index bytes 0 ∷ slice_index bytes 1 ∷ slice_index bytes 2 ∷ slice_index bytes 3 ∷ []) → fits n ≡ false → unit_where fits bytes ≡ Err (Wrong (length bytes))
unfolding unit_where
unit_fails fits [] n enough small is fails = absurd (omega (arith, enough))
unit_fails fits (a ∷ []) n enough small is fails = absurd (omega (arith, enough))
unit_fails fits (a ∷ b ∷ []) n enough small is fails = absurd (omega (arith, enough))
unit_fails fits (a ∷ b ∷ c ∷ []) n enough small is fails = absurd (omega (arith, enough))
unit_fails fits (a ∷ b ∷ c ∷ d ∷ rest) n enough small is fails =
    let size : 4 + length rest ≡ length (a ∷ b ∷ c ∷ d ∷ rest) = omega arith in
    let failed : fits (big_number 4 (a ∷ b ∷ c ∷ d ∷ [])) ≡ false = ap fits (sym is) ∙ fails in
    rw (quad_bytes a b c d (small 0) (small 1) (small 2) (small 3), failed) (ap (λ (k : ℕ). Err (Wrong k)) size)

pub between_true : (least most n : ℕ) → least ≤ n → n ≤ most → is_between least most n ≡ true
between_true least most n low high = grind (arith, low, high)

pub between_low : (least most n : ℕ) → n < least → is_between least most n ≡ false
between_low least most n low = grind (arith, low)

pub between_high : (least most n : ℕ) → most < n → is_between least most n ≡ false
between_high least most n high = grind (arith, high)

pub between_false : (least most n : ℕ) → ((least ≤ n) × (most < n)) ⊎ (n < least) → is_between least most n ≡ false
between_false least most n (inl h) = between_high least most n h.1
between_false least most n (inr h) = between_low least most n h

pub between_holds : (least most n : ℕ) → is_between least most n ≡ true → (least ≤ n) × (n ≤ most)
between_holds least most n h = split (nat_le least n) refl (nat_le n most) refl h
  where
    split : (p : Bool) → nat_le least n ≡ p → (q : Bool) → nat_le n most ≡ q → (p && q) ≡ true → (least ≤ n) × (n ≤ most)
    split true a true b e = (grind (arith, a), grind (arith, b))
    split true a false b e = absurd cc
    split false a q b e = absurd cc

-- the number of a unit that was read passes its test
unit_test : (fits : ℕ → Bool) (n : ℕ) (bytes rest : List ℕ) → unit_where fits bytes ≡ Ok (n, rest) → fits n ≡ true
unfolding unit_where
unit_test fits n [] rest e = absurd cc
unit_test fits n (a ∷ []) rest e = absurd cc
unit_test fits n (a ∷ b ∷ []) rest e = absurd cc
unit_test fits n (a ∷ b ∷ c ∷ []) rest e = absurd cc
unit_test fits n (a ∷ b ∷ c ∷ d ∷ bytes) rest e = at (list_all is_byte (a ∷ b ∷ c ∷ d ∷ [])) (fits (big_number 4 (a ∷ b ∷ c ∷ d ∷ []))) refl e
  where
    at : (p q : Bool) → fits (big_number 4 (a ∷ b ∷ c ∷ d ∷ [])) ≡ q
        → after (λ (quad : List ℕ). done (big_number 4 quad)) (if p && q then Ok (a ∷ b ∷ c ∷ d ∷ [], bytes) else Err (Wrong (4 + length bytes))) ≡ Ok (n, rest) → fits n ≡ true
    at true true is h = let p : ◌≡◌ {A = ℕ × List ℕ} (big_number 4 (a ∷ b ∷ c ∷ d ∷ []), bytes) (n, rest) = cc in ap (λ (r : ℕ × List ℕ). fits r.0) (sym p) ∙ is
    at true false is h = absurd cc
    at false q is h = absurd cc

pub between_bound : (least most n : ℕ) (bytes rest : List ℕ) → between_at least most bytes ≡ Ok (n, rest) → (least ≤ n) × (n ≤ most)
between_bound least most n bytes rest e = between_holds least most n (unit_test (is_between least most) n bytes rest e)
