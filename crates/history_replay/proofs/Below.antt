-- What holds of the items of a list below an index, in a loop.
use Rattle.std.proofs.Common.{◌≡◌, sym, subst, ◌∙◌, ap, ℕ, ◌+◌, ◌<◌, ◌≤◌, ◌⊎◌, inl, inr, List, length, get_or, arith}
use Rattle.std.specs.Prelude.{Some, slice_get}
use Rattle.std.proofs.lemmas.Bool.{cases_eq}
use Rattle.std.proofs.lemmas.Option.{slice_get_within, get_or_from_slice_get}

pub below_next : {X : Type 0} (P : ℕ → X → Type 0) (xs : List X) (i : ℕ) (y : X) → y ≡ get_or xs i y → P i y
    → ((k : ℕ) (x : X) → k < i → slice_get xs k ≡ Some x → P k x) → (k : ℕ) (x : X) → k < i + 1 → slice_get xs k ≡ Some x → P k x
below_next P xs i y read new old k x l there = by_case (cases_eq k i) where
  by_case : (k ≡ i) ⊎ (k ≡ i → ⊥) → P k x
  by_case (inl same) =
      let at_i : slice_get xs i ≡ Some x = ap (slice_get xs) (sym same) ∙ there in
      let x_is : y ≡ x = read ∙ get_or_from_slice_get xs i x y at_i in
      subst (λ (n : ℕ). P n x) (sym same) (subst (P i) x_is new)
  by_case (inr differs) = old k x (omega (arith, l, differs)) there

pub below_all : {X : Type 0} (P : ℕ → X → Type 0) (xs : List X) (i : ℕ) → length xs ≤ i
    → ((k : ℕ) (x : X) → k < i → slice_get xs k ≡ Some x → P k x) → (k : ℕ) (x : X) → slice_get xs k ≡ Some x → P k x
below_all P xs i past old k x there = old k x (let within = slice_get_within xs k x there in omega (arith, past, within)) there
