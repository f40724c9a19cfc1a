-- A set that gets, one after another, the numbers for which something holds.
use Rattle.std.proofs.Common.{◌≡◌, ℕ, zero, ◌+◌, ◌<◌, ◌≤◌, inl, inr, ◌==◌, nat_lt, Bool, true, false, ◌&&◌, ◌||◌, refl, sym, ap, ◌∙◌, arith, lt-ltb, le-ltb, eq-eqb, ne_eqb}
use Rattle.std.proofs.lemmas.Bool.{cases_eq, cases_lt}
use Rattle.std.proofs.lemmas.Nat.Bits.{bit_at-zero}
use Rattle.std.specs.Int.{bit_at}
use Rattle.hub_tables.specs.declared.small_set.SmallSet.{SmallSet}
use Rattle.hub_tables.specs.SmallSets.{no_numbers, has, Adds}

nothing : (b : Bool) (d : ℕ) → d ≡ 0 → (b && (d == 1)) ≡ false
nothing true d none = ap (λ (x : ℕ). x == 1) none
nothing false d none = refl

pub none_has : (number : ℕ) → has no_numbers number ≡ false
none_has number = nothing (nat_lt number 64) (bit_at 0 number) (bit_at-zero number)

below : (n k : ℕ) → ((k ≡ n) → ⊥) → nat_lt k (n + 1) ≡ nat_lt k n
below n k apart = elim (cases_lt k n) [
  | inl less ↦ lt-ltb k (n + 1) (omega arith) ∙ sym (lt-ltb k n less)
  | inr more ↦ le-ltb k (n + 1) (elim (cases_lt n k) [ inl l ↦ omega arith | inr g ↦ absurd (apart (omega arith)) ]) ∙ sym (le-ltb k n more)
]

none_at : (b c : Bool) → b ≡ false → (c && b) ≡ false
none_at b true is = is
none_at b false is = refl

module _ (test : ℕ → Bool) where
  -- of the numbers below this one the set has those for which it holds, and no other
  abbrev pub AreBelow : ℕ → SmallSet → Type 0
  AreBelow n set = (k : ℕ) → k < 64 → has set k ≡ (nat_lt k n && test k)

  pub none_below : AreBelow 0 no_numbers
  none_below = λ k low. none_has k ∙ sym (ap (λ (b : Bool). b && test k) (le-ltb k 0 (omega arith)))

  pub next_below : (n : ℕ) (old new : SmallSet) → test n ≡ true → AreBelow n old → Adds old n new → AreBelow (n + 1) new
  next_below n old new is so_far adds = λ k low. elim (cases_eq n k) [
    | inl e ↦ adds k low ∙ ap (λ (b : Bool). b || has old k) (eq-eqb n k e) ∙ sym (ap (λ (b : Bool). b && test k) (lt-ltb k (n + 1) (omega arith)) ∙ ap test (sym e) ∙ is)
    | inr d ↦ adds k low ∙ ap (λ (b : Bool). b || has old k) (ne_eqb n k d) ∙ so_far k low ∙ ap (λ (b : Bool). b && test k) (sym (below n k (λ e. d (sym e))))
  ]

  pub skipped_below : (n : ℕ) (set : SmallSet) → test n ≡ false → AreBelow n set → AreBelow (n + 1) set
  skipped_below n set is so_far = λ k low. elim (cases_eq n k) [
    | inl e ↦ so_far k low ∙ none_at (test k) (nat_lt k n) (ap test (sym e) ∙ is) ∙ sym (none_at (test k) (nat_lt k (n + 1)) (ap test (sym e) ∙ is))
    | inr d ↦ so_far k low ∙ ap (λ (b : Bool). b && test k) (sym (below n k (λ e. d (sym e))))
  ]

  pub all_below : (n : ℕ) (set : SmallSet) → ((k : ℕ) → k < 64 → n ≤ k → test k ≡ false) → AreBelow n set → (k : ℕ) → k < 64 → has set k ≡ test k
  all_below n set past so_far k low = elim (cases_lt k n) [
    | inl less ↦ so_far k low ∙ ap (λ (b : Bool). b && test k) (lt-ltb k n less)
    | inr more ↦ so_far k low ∙ ap (λ (b : Bool). b && test k) (le-ltb k n more) ∙ sym (past k low more)
  ]
