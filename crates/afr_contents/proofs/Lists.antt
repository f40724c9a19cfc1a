-- The list of adopted changes: it stays while none of them changes, and one that is adopted now comes first.
use Rattle.std.proofs.Common.{◌≡◌, ◌∙◌, ℕ, zero, suc, ◌≤◌, ◌<◌, Bool, true, false, refl, sym, ap, subst, ◌⊎◌, inl, inr, arith}
use Rattle.std.specs.Prelude.{◌∷◌, ◌≢◌, ◌==◌, if◌then◌else◌}
use Rattle.std.proofs.lemmas.Bool.{cases_lt, eqb-true}
use Rattle.fop_types.specs.declared.cells.Cell.{Cell}
use Rattle.afr_machine.specs.Copies.{has_change}
use Rattle.afr_machine.specs.Changes.{Change, is_adopted_on}
use Rattle.afr_laws.proofs.Bools.{is_or_not, either_way}
use Rattle.afr_contents.specs.Adopted.{adopted_below}

module _ (cell : Cell) where
  pub below_same : (old new : ℕ → Change) (n : ℕ) → ((u : ℕ) → u ≤ n → is_adopted_on (new u) cell ≡ is_adopted_on (old u) cell) → adopted_below new n cell ≡ adopted_below old n cell
  below_same old new zero h = refl
  below_same old new (suc u) h =
      ap (λ b. if b then suc u ∷ adopted_below new u cell else adopted_below new u cell) (h (suc u) (omega arith))
      ∙ ap (λ l. if is_adopted_on (old (suc u)) cell then suc u ∷ l else l) (below_same old new u (λ v low. h v (omega (arith, low))))

  -- numbers of which none is adopted
  pub below_more : (changes : ℕ → Change) (n d : ℕ) → n ≤ d → ((u : ℕ) → n < u → is_adopted_on (changes u) cell ≡ false) → adopted_below changes d cell ≡ adopted_below changes n cell
  below_more changes n zero low h = ap (λ e. adopted_below changes e cell) (let e : zero ≡ n = omega (arith, low) in e)
  below_more changes n (suc d) low h = by_case (λ few. below_more changes n d few h) (cases_lt n (suc d)) where
    by_case : (n ≤ d → adopted_below changes d cell ≡ adopted_below changes n cell) → (n < suc d) ⊎ (suc d ≤ n) → adopted_below changes (suc d) cell ≡ adopted_below changes n cell
    by_case rest (inl less) = ap (λ b. if b then suc d ∷ adopted_below changes d cell else adopted_below changes d cell) (h (suc d) less) ∙ rest (omega (arith, less))
    by_case rest (inr more) = ap (λ e. adopted_below changes e cell) (let e : suc d ≡ n = omega (arith, low, more) in e)

  pub below_adds : (old new : ℕ → Change) (u n : ℕ) → 1 ≤ u → u ≤ n → is_adopted_on (new u) cell ≡ true → is_adopted_on (old u) cell ≡ false →
      ((v : ℕ) → v ≢ u → is_adopted_on (new v) cell ≡ is_adopted_on (old v) cell) → ((v : ℕ) → is_adopted_on (old v) cell ≡ true → v ≤ u) → adopted_below new n cell ≡ u ∷ adopted_below old n cell
  below_adds old new u zero one low now before same less = absurd (omega (arith, one, low))
  below_adds old new u (suc n) one low now before same less = by_case (λ few. below_adds old new u n one few now before same less) (cases_lt n u) where
    -- the last of the numbers
    last_one : u ≡ suc n → n < u → adopted_below new (suc n) cell ≡ u ∷ adopted_below old (suc n) cell
    last_one at last = subst (λ x. adopted_below new (suc n) cell ≡ x ∷ adopted_below old (suc n) cell) (sym at)
        (ap (λ b. if b then suc n ∷ adopted_below new n cell else adopted_below new n cell) (subst (λ x. is_adopted_on (new x) cell ≡ true) at now)
        ∙ ap (λ l. suc n ∷ l) (below_same old new n (λ v few. same v (λ e. absurd (omega (arith, few, last, e)))))
        ∙ ap (λ b. suc n ∷ (if b then suc n ∷ adopted_below old n cell else adopted_below old n cell)) (sym (subst (λ x. is_adopted_on (old x) cell ≡ false) at before)))

    earlier : u ≤ n → adopted_below new n cell ≡ u ∷ adopted_below old n cell → (is_adopted_on (old (suc n)) cell ≡ true) ⊎ (is_adopted_on (old (suc n)) cell ≡ false) → adopted_below new (suc n) cell ≡ u ∷ adopted_below old (suc n) cell
    earlier more rest (inl there) = absurd (let l = less (suc n) there in omega (arith, l, more))
    earlier more rest (inr none) =
        ap (λ b. if b then suc n ∷ adopted_below new n cell else adopted_below new n cell) (same (suc n) (λ e. absurd (omega (arith, e, more))) ∙ none)
        ∙ rest
        ∙ ap (λ b. u ∷ (if b then suc n ∷ adopted_below old n cell else adopted_below old n cell)) (sym none)

    by_case : (u ≤ n → adopted_below new n cell ≡ u ∷ adopted_below old n cell) → (n < u) ⊎ (u ≤ n) → adopted_below new (suc n) cell ≡ u ∷ adopted_below old (suc n) cell
    by_case rest (inl last) = last_one (omega (arith, last, low)) last
    by_case rest (inr more) = earlier more (rest more) (is_or_not (is_adopted_on (old (suc n)) cell))

  -- each number in it is that of an adopted change
  pub below_adopted : (changes : ℕ → Change) (n u : ℕ) → has_change (adopted_below changes n cell) u ≡ true → is_adopted_on (changes u) cell ≡ true
  below_adopted changes zero u h = absurd (let no : false ≡ true = h in cc)
  below_adopted changes (suc n) u h = by_case (below_adopted changes n u) (is_adopted_on (changes (suc n)) cell) refl h where
    by_number : (has_change (adopted_below changes n cell) u ≡ true → is_adopted_on (changes u) cell ≡ true) → is_adopted_on (changes (suc n)) cell ≡ true → ((u == suc n) ≡ true) ⊎ (has_change (adopted_below changes n cell) u ≡ true) → is_adopted_on (changes u) cell ≡ true
    by_number rest is (inl same) = subst (λ x. is_adopted_on (changes x) cell ≡ true) (sym (eqb-true u (suc n) same)) is
    by_number rest is (inr old) = rest old

    by_case : (has_change (adopted_below changes n cell) u ≡ true → is_adopted_on (changes u) cell ≡ true) → (b : Bool) → is_adopted_on (changes (suc n)) cell ≡ b → has_change (if b then suc n ∷ adopted_below changes n cell else adopted_below changes n cell) u ≡ true → is_adopted_on (changes u) cell ≡ true
    by_case rest true is has = by_number rest is (either_way (u == suc n) (has_change (adopted_below changes n cell) u) has)
    by_case rest false is has = rest has
