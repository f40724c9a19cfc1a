-- Runs of page numbers, and bytes cut from lists that follow each other.
use Rattle.std.proofs.Common.{◌≡◌, ℕ, zero, suc, ◌+◌, ◌-◌, ◌<◌, ◌≤◌, List, [], ◌∷◌, ◌++◌, length, take, drop, refl, ap, sym, ◌∙◌, arith, append_assoc}
use Rattle.std.specs.List.{range_with_len, flat_map}

pub range_first : (a b : ℕ) → a < b → range_with_len a (b - a) ≡ a ∷ range_with_len (a + 1) (b - (a + 1))
range_first a b h = let e : b - a ≡ suc (b - (a + 1)) = omega (arith, h) in rw e refl

pub empty_range : (a : ℕ) → range_with_len a (a - a) ≡ []
empty_range a = let e : a - a ≡ 0 = omega arith in rw e refl

pub range_snoc : (a n b : ℕ) → a + n ≡ b → range_with_len a (n + 1) ≡ range_with_len a n ++ b ∷ []
range_snoc a zero b h = let e : a ≡ b = omega (arith, h) in rw e refl
range_snoc a (suc n) b h = let e : suc n + 1 ≡ suc (n + 1) = omega arith in let f : a + 1 + n ≡ b = omega (arith, h) in rw e (ap (λ (l : List ℕ). a ∷ l) (range_snoc (a + 1) n b f))

module _ {X : Type 0} where
  pub cut_append : (left skip : ℕ) (xs ys : List X) → take left (drop skip (xs ++ ys)) ≡ take left (drop skip xs) ++ take (left - length (take left (drop skip xs))) (drop (skip - length xs) ys)
  cut_append zero zero [] ys = refl
  cut_append (suc left) zero [] ys = let e : suc left - 0 ≡ suc left = omega arith in rw e refl
  cut_append zero (suc skip) [] ys = refl
  cut_append (suc left) (suc skip) [] ys = let e : suc left - 0 ≡ suc left = omega arith in let f : suc skip - 0 ≡ suc skip = omega arith in rw e (rw f refl)
  cut_append zero zero (x ∷ xs) ys = refl
  cut_append (suc left) zero (x ∷ xs) ys =
      let on = cut_append left zero xs ys in
      let e : suc left - length (x ∷ take left xs) ≡ left - length (take left xs) = omega arith in
      let f : 0 - length (x ∷ xs) ≡ 0 - length xs = omega arith in
      rw e (rw f (ap (λ (l : List X). x ∷ l) on))
  cut_append left (suc skip) (x ∷ xs) ys =
      let on = cut_append left skip xs ys in
      let f : suc skip - length (x ∷ xs) ≡ skip - length xs = omega arith in
      rw f on

pub back : (a b : ℕ) → a ≤ b → range_with_len a (b + 1 - a) ≡ range_with_len a (b - a) ++ b ∷ []
back a b h = let e : b + 1 - a ≡ (b - a) + 1 = omega (arith, h) in let f : a + (b - a) ≡ b = omega (arith, h) in rw e (range_snoc a (b - a) b f)

-- one page more of the bytes that are cut
pub cut_more : (f : ℕ → List ℕ) (bytes all : List ℕ) (left skip n end : ℕ) → n < end
    → bytes ++ take left (drop skip (flat_map f (range_with_len n (end - n)))) ≡ all
    → (bytes ++ take left (drop skip (f n))) ++ take (left - length (take left (drop skip (f n)))) (drop (skip - length (f n)) (flat_map f (range_with_len (n + 1) (end - (n + 1))))) ≡ all
cut_more f bytes all left skip n end l h =
    append_assoc bytes (take left (drop skip (f n))) _ ∙ ap (λ (t : List ℕ). bytes ++ t) (sym (cut_append left skip (f n) (flat_map f (range_with_len (n + 1) (end - (n + 1)))))) ∙ rw (range_first n end l) at h
