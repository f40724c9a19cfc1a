-- Items of a list that were set, and of a list with one more. For the crates above, too.
use Rattle.std.proofs.Common.{◌≡◌, ◌≢◌, ◌<◌, ◌≤◌, refl, sym, ap, arith}
use Rattle.std.specs.Prelude.{ℕ, zero, suc, List, [], ◌∷◌, ◌++◌, Some, length, slice_get, slice_set}

module _ {X : Type 0} where
  pub some_is : (a b : X) → Some a ≡ Some b → a ≡ b
  some_is a b e = cc

  pub at_set : (xs : List X) (j : ℕ) (x : X) → j < length xs → slice_get (slice_set xs j x) j ≡ Some x
  at_set [] j x lt = absurd (omega (arith, lt))
  at_set (y ∷ xs) zero x lt = refl
  at_set (y ∷ xs) (suc j) x lt = at_set xs j x (omega (arith, lt))

  pub beside_set : (xs : List X) (j k : ℕ) (x : X) → k ≢ j → slice_get (slice_set xs j x) k ≡ slice_get xs k
  beside_set [] j k x ne = refl
  beside_set (y ∷ xs) zero zero x ne = absurd (ne refl)
  beside_set (y ∷ xs) zero (suc k) x ne = refl
  beside_set (y ∷ xs) (suc j) zero x ne = refl
  beside_set (y ∷ xs) (suc j) (suc k) x ne = beside_set xs j k x (λ e. ne (ap suc e))

  pub get_later : (xs : List X) (x y : X) (k : ℕ) → slice_get xs k ≡ Some y → slice_get (xs ++ x ∷ []) k ≡ Some y
  get_later [] x y k is = absurd cc
  get_later (z ∷ xs) x y zero is = is
  get_later (z ∷ xs) x y (suc k) is = get_later xs x y k is

  pub get_last : (xs : List X) (x : X) → slice_get (xs ++ x ∷ []) (length xs) ≡ Some x
  get_last [] x = refl
  get_last (z ∷ xs) x = get_last xs x

  -- an item of the longer list is one of the shorter, or the last
  pub was_there : (xs : List X) (x y : X) (k : ℕ) → slice_get (xs ++ x ∷ []) k ≡ Some y → k < length xs → slice_get xs k ≡ Some y
  was_there [] x y k is lt = absurd (omega (arith, lt))
  was_there (z ∷ xs) x y zero is lt = is
  was_there (z ∷ xs) x y (suc k) is lt = was_there xs x y k is (omega (arith, lt))

  pub is_last : (xs : List X) (x y : X) (k : ℕ) → slice_get (xs ++ x ∷ []) k ≡ Some y → length xs ≤ k → (k ≡ length xs) × (y ≡ x)
  is_last [] x y zero is le = (refl, sym (some_is x y is))
  is_last [] x y (suc k) is le = absurd cc
  is_last (z ∷ xs) x y zero is le = absurd (omega (arith, le))
  is_last (z ∷ xs) x y (suc k) is le = let ih = is_last xs x y k is (omega (arith, le)) in (ap suc ih.0, ih.1)
