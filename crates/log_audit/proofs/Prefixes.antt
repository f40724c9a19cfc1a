-- A prefix of a list that grows by one item, beside a function of what is left of another list.
use Rattle.std.proofs.Common.{◌≡◌, refl, sym, ap, ◌∙◌, arith}
use Rattle.std.specs.Prelude.{ℕ, zero, suc, ◌≢◌, ◌+◌, ◌<◌, ◌≤◌, List, [], ◌∷◌, ◌++◌, length, take, slice_get, None, Some}
use Rattle.mount_log.proofs.Items.{some_is}

module _ {X : Type 0} where
  head_is : (a b : X) (us vs : List X) → a ∷ us ≡ b ∷ vs → a ≡ b
  head_is a b us vs e = cc

  tail_is : (a b : X) (us vs : List X) → a ∷ us ≡ b ∷ vs → us ≡ vs
  tail_is a b us vs e = cc

  take_next' : (xs : List X) (k : ℕ) (x : X) (rest : List X) → slice_get xs k ≡ Some x → take k xs ++ x ∷ rest ≡ take (suc k) xs ++ rest
  take_next' [] k x rest is = absurd cc
  take_next' (y ∷ xs) zero x rest is = ap (λ z. z ∷ rest) (sym (some_is y x is))
  take_next' (y ∷ xs) (suc k) x rest is = ap (λ l. y ∷ l) (take_next' xs k x rest is)

  pub take_next : (xs : List X) (k : ℕ) (x : X) (rest : List X) → slice_get xs k ≡ Some x → take k xs ++ x ∷ rest ≡ take (k + 1) xs ++ rest
  take_next xs k x rest is = let one : suc k ≡ k + 1 = omega arith in take_next' xs k x rest is ∙ ap (λ (n : ℕ). take n xs ++ rest) one

  pub is_there : (xs : List X) (k : ℕ) → k < length xs → slice_get xs k ≡ None → ⊥
  is_there [] k lt none = absurd (omega (arith, lt))
  is_there (y ∷ xs) zero lt none = absurd cc
  is_there (y ∷ xs) (suc k) lt none = is_there xs k (omega (arith, lt)) none

  pub within : (xs : List X) (k : ℕ) (x : X) → slice_get xs k ≡ Some x → k + 1 ≤ length xs
  within [] k x is = absurd cc
  within (y ∷ xs) zero x is = omega arith
  within (y ∷ xs) (suc k) x is = let ih = within xs k x is in omega (arith, ih)

  -- the prefix with nothing left is all
  pub whole : (xs : List X) (k : ℕ) (all : List X) → take k xs ++ [] ≡ all → k ≤ length xs → take (length all) xs ≡ all
  whole [] zero [] is le = refl
  whole [] zero (y ∷ all) is le = absurd cc
  whole [] (suc k) all is le = absurd (omega (arith, le))
  whole (x ∷ xs) zero [] is le = refl
  whole (x ∷ xs) zero (y ∷ all) is le = absurd cc
  whole (x ∷ xs) (suc k) [] is le = absurd cc
  whole (x ∷ xs) (suc k) (y ∷ all) is le = ap (λ l. x ∷ l) (whole xs k all (tail_is x y (take k xs ++ []) all is) (omega (arith, le))) ∙ ap (λ z. z ∷ all) (head_is x y (take k xs ++ []) all is)

  -- all of it, with whatever is left
  pub prefix : (xs rest all : List X) → xs ++ rest ≡ all → take (length xs) all ≡ xs
  prefix [] rest all is = refl
  prefix (x ∷ xs) rest [] is = absurd cc
  prefix (x ∷ xs) rest (y ∷ all) is = ap (λ l. y ∷ l) (prefix xs rest all (tail_is x y (xs ++ rest) all is)) ∙ ap (λ z. z ∷ xs) (sym (head_is x y (xs ++ rest) all is))

  -- ---- where it is no prefix

  -- what is a prefix of all, but not used up, goes on as all does
  pub goes_on : (xs : List X) (k : ℕ) (x : X) (rest all : List X) → take k xs ++ x ∷ rest ≡ all → k ≤ length xs → k ≢ length xs → take (length xs) all ≡ xs → slice_get xs k ≡ Some x
  goes_on [] zero x rest all is le ne pre = absurd (ne refl)
  goes_on [] (suc k) x rest all is le ne pre = absurd (omega (arith, le))
  goes_on (y ∷ xs) zero x rest [] is le ne pre = absurd cc
  goes_on (y ∷ xs) zero x rest (z ∷ all) is le ne pre = ap Some (sym (head_is z y (take (length xs) all) xs pre) ∙ sym (head_is x z rest all is))
  goes_on (y ∷ xs) (suc k) x rest [] is le ne pre = absurd cc
  goes_on (y ∷ xs) (suc k) x rest (z ∷ all) is le ne pre =
      goes_on xs k x rest all (tail_is y z (take k xs ++ x ∷ rest) all is) (omega (arith, le)) (λ e. ne (ap suc e)) (tail_is z y (take (length xs) all) xs pre)

  -- and what has all as a prefix goes on as all does
  pub goes_with : (xs : List X) (k : ℕ) (x : X) (rest all : List X) → take k xs ++ x ∷ rest ≡ all → k ≤ length xs → take (length all) xs ≡ all → slice_get xs k ≡ Some x
  goes_with [] zero x rest [] is le pre = absurd cc
  goes_with [] zero x rest (z ∷ all) is le pre = absurd cc
  goes_with [] (suc k) x rest all is le pre = absurd (omega (arith, le))
  goes_with (y ∷ xs) zero x rest [] is le pre = absurd cc
  goes_with (y ∷ xs) zero x rest (z ∷ all) is le pre = ap Some (head_is y z (take (length all) xs) all pre ∙ sym (head_is x z rest all is))
  goes_with (y ∷ xs) (suc k) x rest [] is le pre = absurd cc
  goes_with (y ∷ xs) (suc k) x rest (z ∷ all) is le pre =
      goes_with xs k x rest all (tail_is y z (take k xs ++ x ∷ rest) all is) (omega (arith, le)) (tail_is y z (take (length all) xs) all pre)

  -- with nothing left, a prefix of all is used up
  pub used_up : (xs : List X) (k : ℕ) (all : List X) → take k xs ++ [] ≡ all → k ≤ length xs → take (length xs) all ≡ xs → k ≡ length xs
  used_up [] zero all is le pre = refl
  used_up [] (suc k) all is le pre = absurd (omega (arith, le))
  used_up (x ∷ xs) zero [] is le pre = absurd cc
  used_up (x ∷ xs) zero (y ∷ all) is le pre = absurd cc
  used_up (x ∷ xs) (suc k) [] is le pre = absurd cc
  used_up (x ∷ xs) (suc k) (y ∷ all) is le pre = ap suc (used_up xs k all (tail_is x y (take k xs ++ []) all is) (omega (arith, le)) (tail_is y x (take (length xs) all) xs pre))
