-- Tables with one entry changed, by whether it is the number that changed.
use Rattle.std.proofs.Common.{◌≡◌, ℕ, ◌⊎◌, inl, inr, sym, subst}
use Rattle.std.specs.Prelude.{◌≢◌}
use Rattle.std.proofs.lemmas.Bool.{cases_eq}
use Rattle.afr_machine.specs.Replicas.{with_at}
use Rattle.afr_machine.proofs.Tables.{at_same, at_other}

module _ {A : Type 0} where
  pub at_case : (P : ℕ → A → Type 0) (f : ℕ → A) (k : ℕ) (x : A) → P k x → (j : ℕ) → (j ≢ k → P j (f j)) → P j (with_at f k x j)
  at_case P f k x new j old = by_case (cases_eq j k) where
    by_case : (j ≡ k) ⊎ (j ≢ k) → P j (with_at f k x j)
    by_case (inl same) = subst (λ i. P i (with_at f k x i)) (sym same) (subst (P k) (sym (at_same f k x)) new)
    by_case (inr other) = subst (P j) (sym (at_other f k x j other)) (old other)

-- two tables that change at one number
module _ {A B : Type 0} where
  pub at_both : (P : ℕ → A → B → Type 0) (f : ℕ → A) (g : ℕ → B) (k : ℕ) (x : A) (y : B) → P k x y → (j : ℕ) → (j ≢ k → P j (f j) (g j)) → P j (with_at f k x j) (with_at g k y j)
  at_both P f g k x y new j old = by_case (cases_eq j k) where
    by_case : (j ≡ k) ⊎ (j ≢ k) → P j (with_at f k x j) (with_at g k y j)
    by_case (inl same) =
        subst (λ i. P i (with_at f k x i) (with_at g k y i)) (sym same)
        (subst (λ a. P k a (with_at g k y k)) (sym (at_same f k x)) (subst (λ b. P k x b) (sym (at_same g k y)) new))
    by_case (inr other) = subst (λ a. P j a (with_at g k y j)) (sym (at_other f k x j other)) (subst (λ b. P j (f j) b) (sym (at_other g k y j other)) (old other))
