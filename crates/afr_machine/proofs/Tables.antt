-- Tables with one entry changed.
use Rattle.std.proofs.Common.{◌≡◌, ℕ, Bool, true, false, refl, sym, ap, subst}
use Rattle.std.specs.Prelude.{◌==◌, ◌≢◌, if◌then◌else◌}
use Rattle.std.proofs.lemmas.Bool.{eqb-true, eq-eqb, ne_eqb}
use Rattle.afr_machine.specs.Replicas.{with_at}

module _ {A : Type 0} where
  -- what holds of the new entry at its number, and of the old ones, holds at each number
  pub at_each : (P : ℕ → A → Type 0) (f : ℕ → A) (k : ℕ) (x : A) → P k x → (j : ℕ) → P j (f j) → P j (with_at f k x j)
  at_each P f k x new j old = by_case (j == k) refl where
    by_case : (b : Bool) → (j == k) ≡ b → P j (if b then x else f j)
    by_case true e = subst (λ i. P i x) (sym (eqb-true j k e)) new
    by_case false e = old

  pub at_same : (f : ℕ → A) (k : ℕ) (x : A) → with_at f k x k ≡ x
  at_same f k x = ap (λ b. if b then x else f k) (eq-eqb k k refl)

  pub at_other : (f : ℕ → A) (k : ℕ) (x : A) (j : ℕ) → j ≢ k → with_at f k x j ≡ f j
  at_other f k x j ne = ap (λ b. if b then x else f j) (ne_eqb j k ne)
