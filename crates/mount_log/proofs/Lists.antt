-- Items of lists with one more, and lists of numbers that are equal.
use Rattle.std.proofs.Common.{◌≡◌, refl, sym, ap, subst, ◌∙◌, arith, get_or}
use Rattle.std.specs.Prelude.{ℕ, zero, suc, ◌<◌, ◌+◌, ◌==◌, nat_lt, Bool, true, false, List, [], ◌∷◌, ◌++◌, Some, length, take, drop, slice_get}
use Rattle.std.specs.Cmp.Derive.{both_true}
use Rattle.std.specs.Cmp.Lexicographic.{pointwise}
use Rattle.std.proofs.lemmas.Bool.{eq-eqb, eqb-true, ltb-true, ltb-false}
use Rattle.std.proofs.lemmas.List.{length-append, at_drop_more}
use Rattle.std.proofs.lemmas.Option.{slice_get_read}
use Rattle.mount_log.proofs.Items.{some_is, was_there, is_last}
use Rattle.mount_log.proofs.Bools.{both}

-- what holds of the items before a place holds of the next, too
pub each_next : {X : Type 0} → (P : ℕ → X → Type 0) (xs : List X) (n : ℕ) (x : X) → slice_get xs n ≡ Some x → P n x → ((k : ℕ) (y : X) → k < n → slice_get xs k ≡ Some y → P k y)
    → (k : ℕ) (y : X) → k < n + 1 → slice_get xs k ≡ Some y → P k y
each_next {X = X} P xs n x there own before k y lt is = by (nat_lt k n) refl where
  by : (t : Bool) → nat_lt k n ≡ t → P k y
  by true e = before k y (ltb-true k n e) is
  by false e =
      let le = ltb-false k n e in let same : n ≡ k = omega (arith, lt, le) in
      let x_is : x ≡ y = some_is x y (sym there ∙ ap (slice_get xs) same ∙ is) in
      subst (λ (z : X). P k z) x_is (subst (λ (m : ℕ). P m x) same own)

module _ {X : Type 0} where
  pub each_push : (P : ℕ → X → Type 0) (xs : List X) (x : X) → P (length xs) x → ((k : ℕ) (y : X) → slice_get xs k ≡ Some y → P k y) → (k : ℕ) (y : X) → slice_get (xs ++ x ∷ []) k ≡ Some y → P k y
  each_push P xs x own before k y is = by (nat_lt k (length xs)) refl where
    by : (b : Bool) → nat_lt k (length xs) ≡ b → P k y
    by true e = before k y (was_there xs x y k is (ltb-true k (length xs) e))
    by false e =
        let last = is_last xs x y k is (ltb-false k (length xs) e) in
        subst (λ (z : X). P k z) (sym last.1) (subst (λ (n : ℕ). P n x) (sym last.0) own)

  pub one_longer : (xs : List X) (x : X) (n : ℕ) → length xs ≡ n → length (xs ++ x ∷ []) ≡ n + 1
  one_longer xs x n e = let a = length-append xs (x ∷ []) in omega (arith, a, e)

  -- an item that was got by its place
  pub got : (xs : List X) (i : ℕ) (x : X) → true ≡ nat_lt i (length xs) → x ≡ get_or xs i x → slice_get xs i ≡ Some x
  got xs i x lt is = slice_get_read xs (length xs) i x refl (ltb-true i (length xs) (sym lt)) is

  pub take_next : (xs : List X) (n : ℕ) (x : X) → slice_get xs n ≡ Some x → take (n + 1) xs ≡ take n xs ++ x ∷ []
  take_next [] n x is = absurd cc
  take_next (y ∷ xs) zero x is = let e : y ≡ x = first y x is in ap (λ (z : X). z ∷ []) e where
    first : (a b : X) → Some a ≡ Some b → a ≡ b
    first a b e = cc
  take_next (y ∷ xs) (suc n) x is = let e : suc n + 1 ≡ suc (n + 1) = omega arith in ap (λ (m : ℕ). take m (y ∷ xs)) e ∙ ap (λ l. y ∷ l) (take_next xs n x is)

  -- a list that grows by what a function says of the items of another, with the item at a place more
  pub grown : {Y : Type 0} (f : List X → List Y) (xs : List X) (i : ℕ) (d : X) (old new rest all : List Y) → i < length xs → new ++ rest ≡ old ++ f (get_or xs i d ∷ drop (i + 1) xs) → old ++ f (drop i xs) ≡ all
      → new ++ rest ≡ all
  grown {Y = Y} f xs i d old new rest all lt added so_far = added ∙ ap (λ (l : List Y). old ++ l) (sym (at_drop_more f xs i d lt)) ∙ so_far

  -- where the other list is read as these items, and this is the one at the place
  pub grown_by : {Y : Type 0} (f : List X → List Y) (xs items : List X) (i : ℕ) (x : X) (old new rest all : List Y) → items ≡ xs → i < length items → x ≡ get_or items i x → new ++ rest ≡ old ++ f (x ∷ drop (i + 1) xs)
      → old ++ f (drop i xs) ≡ all → new ++ rest ≡ all
  grown_by {Y = Y} f xs items i x old new rest all same lt is added so_far =
      grown f items i x old new rest all lt (added ∙ ap (λ (l : List X). old ++ f (x ∷ drop (i + 1) l)) (sym same) ∙ ap (λ (y : X). old ++ f (y ∷ drop (i + 1) items)) is) (ap (λ (l : List X). old ++ f (drop i l)) same ∙ so_far)

-- ---- lists of numbers

pub pointwise_same : (xs : List ℕ) → pointwise ◌==◌ xs xs ≡ true
pointwise_same [] = refl
pointwise_same (x ∷ xs) = both_true (eq-eqb x x refl) (pointwise_same xs)

pub lists_same : (xs ys : List ℕ) → xs ≡ ys → pointwise ◌==◌ xs ys ≡ true
lists_same xs ys e = subst (λ (zs : List ℕ). pointwise ◌==◌ xs zs ≡ true) e (pointwise_same xs)

pub same_list : (xs ys : List ℕ) → pointwise ◌==◌ xs ys ≡ true → xs ≡ ys
same_list [] [] e = refl
same_list [] (y ∷ ys) e = absurd cc
same_list (x ∷ xs) [] e = absurd cc
same_list (x ∷ xs) (y ∷ ys) e = let p = both (x == y) (pointwise ◌==◌ xs ys) e in ap (λ l. x ∷ l) (same_list xs ys p.1) ∙ ap (λ z. z ∷ ys) (eqb-true x y p.0)
