-- The mask of the lanes in which two vectors differ is 0 exactly where the vectors are the same.
use Rattle.std.proofs.Common.{◌≡◌, ℕ, zero, suc, ◌+◌, ◌*◌, ◌%◌, ◌^◌, ◌↔◌, Bool, true, false, not, List, [], ◌∷◌, length, arith, refl, sym, ap, ◌∙◌, subst}
use Rattle.std.proofs.lemmas.Bool.{eq-eqb, ne_eqb, eqb-true, not-false}
use Rattle.std.proofs.lemmas.List.{same_lists}
use Rattle.std.proofs.lemmas.List.Elements.{All-replicate}
use Rattle.std.proofs.lemmas.Simd.{tops_compared, mask_l-mod, length-zip2, length-replicate, get_or-replicate}
use Rattle.std.specs.Prelude.{replicate, map, ◌≢◌, IsTrue, MatchBool}
use Rattle.std.specs.List.{All}
use lib.Dec.{eqb}
use lib.Lanes.{zip2, mask_l, top}
use mathlib.Core.Bool.{cond}
use mir.Syntax.{w8}

abbrev pub differs : ℕ → ℕ → Bool
differs x y = not (eqb x y)

-- the mask as `simd_ne` and `to_bitmask` make it
abbrev pub lane_mask : List ℕ → List ℕ → ℕ
lane_mask xs ys = mask_l (map (top 7) (zip2 (λ x y. cond (differs x y) 255 0) xs ys)) % 2 ^ 64

bits_zero : (b : Bool) (n : ℕ) → cond b 1 0 + 2 * n ≡ 0 → (b ≡ false) × (n ≡ 0)
bits_zero true n e = absurd (omega arith)
bits_zero false n e = (refl, omega arith)

zero_bits : (b : Bool) (n : ℕ) → b ≡ false → n ≡ 0 → cond b 1 0 + 2 * n ≡ 0
zero_bits true n f e = absurd cc
zero_bits false n f e = omega arith

same_from_zero : (xs ys : List ℕ) → length xs ≡ length ys → mask_l (zip2 differs xs ys) ≡ 0 → xs ≡ ys
same_from_zero [] [] l e = refl
same_from_zero [] (y ∷ ys) l e = absurd (omega arith)
same_from_zero (x ∷ xs) [] l e = absurd (omega arith)
same_from_zero (x ∷ xs) (y ∷ ys) l e =
    let z = bits_zero (differs x y) (mask_l (zip2 differs xs ys)) e in
    ap (λ (n : ℕ). n ∷ xs) (eqb-true x y (not-false (eqb x y) z.0)) ∙ ap (λ (zs : List ℕ). y ∷ zs) (same_from_zero xs ys (omega arith) z.1)

zero_of_same : (xs : List ℕ) → mask_l (zip2 differs xs xs) ≡ 0
zero_of_same [] = refl
zero_of_same (x ∷ xs) = zero_bits (differs x x) (mask_l (zip2 differs xs xs)) (ap not (eq-eqb x x refl)) (zero_of_same xs)

mask_is : (xs ys : List ℕ) → length xs ≡ 64 → length ys ≡ 64 → lane_mask xs ys ≡ mask_l (zip2 differs xs ys)
mask_is xs ys l m =
    ap {B = ℕ} (λ (bs : List Bool). mask_l bs % 2 ^ 64) (tops_compared w8 differs xs ys)
    ∙ mask_l-mod (zip2 differs xs ys) 64 (omega (arith, length-zip2 differs xs ys (l ∙ sym m)))

pub mask_zero : (xs ys : List ℕ) → length xs ≡ 64 → length ys ≡ 64 → lane_mask xs ys ≡ 0 → xs ≡ ys
mask_zero xs ys l m e = same_from_zero xs ys (l ∙ sym m) (sym (mask_is xs ys l m) ∙ e)

pub zero_mask : (xs ys : List ℕ) → length xs ≡ 64 → length ys ≡ 64 → xs ≡ ys → lane_mask xs ys ≡ 0
zero_mask xs ys l m e = mask_is xs ys l m ∙ subst (λ (zs : List ℕ). mask_l (zip2 differs xs zs) ≡ 0) e (zero_of_same xs)

pub zeros_same : (xs : List ℕ) → length xs ≡ 64 → All (λ byte. byte ≡ 0) xs → xs ≡ replicate 64 0
zeros_same xs l all = same_lists xs (replicate 64 0) (l ∙ sym (length-replicate {A = ℕ} 64 0)) (λ k d h. all k d h ∙ sym (get_or-replicate {A = ℕ} 64 k 0 d (omega arith)))

pub same_zeros : (xs : List ℕ) → xs ≡ replicate 64 0 → All (λ byte. byte ≡ 0) xs
same_zeros xs e = subst (λ (zs : List ℕ). All (λ byte. byte ≡ 0) zs) (sym e) (All-replicate (λ byte. byte ≡ 0) 64 0 refl)

by_mask : (P : Type 0) (m : ℕ) → (m ≡ 0 → P) → (P → m ≡ 0) → MatchBool (not (eqb m 0)) (P → ⊥) P
by_mask P zero same none = same refl
by_mask P (suc m) same none =
    let apart : P → ⊥ = λ p. absurd (omega (arith, none p)) in
    subst (λ (b : Bool). MatchBool (not b) (P → ⊥) P) (sym (ne_eqb (suc m) 0 (λ e. absurd (omega arith)))) apart

-- what the test of two vectors says
pub apart_by_mask : (xs ys : List ℕ) → length xs ≡ 64 → length ys ≡ 64 → MatchBool (not (eqb (lane_mask xs ys) 0)) (xs ≢ ys) (xs ≡ ys)
apart_by_mask xs ys l m = by_mask (xs ≡ ys) (lane_mask xs ys) (mask_zero xs ys l m) (zero_mask xs ys l m)

-- what the test of a vector against zeros says
pub zero_by_mask : (xs : List ℕ) → length xs ≡ 64 → IsTrue (eqb (lane_mask xs (replicate 64 0)) 0) ↔ All (λ byte. byte ≡ 0) xs
zero_by_mask xs l = (
  λ t. same_zeros xs (mask_zero xs (replicate 64 0) l (length-replicate {A = ℕ} 64 0) (eqb-true _ 0 t)),
  λ z. eq-eqb _ 0 (zero_mask xs (replicate 64 0) l (length-replicate {A = ℕ} 64 0) (zeros_same xs l z)),
)
