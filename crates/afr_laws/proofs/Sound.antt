-- Soundness by the changelog's lists, and by counts.
use Rattle.std.proofs.Common.{◌≡◌, ◌∙◌, ℕ, zero, suc, ◌<◌, Bool, true, false, refl, sym, ap, ◌⊎◌, inl, inr, arith, Option, Some, None, is_some, [], ◌∷◌, ◌++◌, length, get_or}
use Rattle.std.specs.Prelude.{not, ◌&&◌, ◌==◌, if◌then◌else◌, slice_index}
use Rattle.std.specs.List.{count_by}
use Rattle.std.proofs.lemmas.Bool.{cases_eq, cases_lt, eqb-true, eq-eqb}
use Rattle.fop_types.specs.declared.cells.Cell.{Cell}
use Rattle.fop_types.specs.declared.contents.Row.{Row}
use Rattle.afr_changelog.specs.Soundness.{row_of, reached_in, accuses, accusers_of}
use Rattle.afr_machine.specs.Replicas.{Size, one_if, count}
use Rattle.afr_machine.specs.Phases.{Phase, rows_up_to, shown_in, rows_in, IsSoundIn}
use Rattle.afr_laws.specs.Rows.{accusing_in, IsSoundByCount, SoundnessIsCounted, SoundHasFewAccusers}
use Rattle.afr_laws.proofs.Bools.{both, both_left, both_right}
use Rattle.afr_laws.proofs.Counts.{count_within, count_same, count_split, count_outside}
use Rattle.std.proofs.lemmas.List.Sums.{sum_by_push}
use Rattle.std.proofs.lemmas.List.{get_or_append_left, get_or_push, get_or_past, length-append}

-- ---- rows in a list

rows_length : (n : ℕ) (f : ℕ → Option Row) → length (rows_up_to n f) ≡ n
rows_length zero f = refl
rows_length (suc k) f = length-append (rows_up_to k f) (f k ∷ []) ∙ omega (arith, rows_length k f)

row_at : (n : ℕ) (f : ℕ → Option Row) (i : ℕ) → i < n → row_of (rows_up_to n f) i ≡ f i
row_at zero f i l = absurd (omega arith)
row_at (suc k) f i l = by_case (row_at k f i) (cases_eq i k) where
  by_case : (i < k → row_of (rows_up_to k f) i ≡ f i) → (i ≡ k) ⊎ (i ≡ k → ⊥) → get_or (rows_up_to k f ++ f k ∷ []) i None ≡ f i
  by_case ih (inl same) = get_or_push (rows_up_to k f) (f k) None i (rows_length k f ∙ sym same) ∙ ap f (sym same)
  by_case ih (inr other) = get_or_append_left (rows_up_to k f) (f k ∷ []) None i (omega (arith, rows_length k f)) ∙ ih (omega arith)

row_within : (n : ℕ) (f : ℕ → Option Row) (i : ℕ) (row : Row) → row_of (rows_up_to n f) i ≡ Some row → i < n
row_within n f i row e = elim (cases_lt i n) [
  | inl l ↦ l
  | inr h ↦ absurd (let none : Some row ≡ None = sym e ∙ get_or_past (rows_up_to n f) i None (omega (arith, rows_length n f)) in cc)
]

counted : (p : Option Row → Bool) (n : ℕ) (f : ℕ → Option Row) → count_by p (rows_up_to n f) ≡ count n (λ k. p (f k))
counted p zero f = refl
counted p (suc k) f = sum_by_push (λ y. if p y then 1 else 0) (rows_up_to k f) (f k) ∙ omega (arith, counted p k f, one (p (f k))) where
  one : (b : Bool) → (if b then 1 else 0) ≡ one_if b
  one true = refl
  one false = refl

-- ---- what a lock phase showed

module _ (size : Size) (phase : Phase) (cell : Cell) where
  shows : (i : ℕ) (row : Row) → shown_in phase cell i ≡ Some row → (phase.reached i ≡ true) × (phase.rows i cell ≡ row)
  shows i row = by_case (phase.reached i) where
    by_case : (b : Bool) → (if b then Some (phase.rows i cell) else None) ≡ Some row → (b ≡ true) × (phase.rows i cell ≡ row)
    by_case true e = (refl, cc)
    by_case false e = absurd cc

  shown : (i : ℕ) → phase.reached i ≡ true → shown_in phase cell i ≡ Some (phase.rows i cell)
  shown i e = ap (λ b. if b then Some (phase.rows i cell) else None) e

  reached_count : reached_in (rows_in size phase cell) ≡ count size.replicas phase.reached
  reached_count = counted is_some size.replicas (shown_in phase cell) ∙ count_same size.replicas (λ k. is_some (shown_in phase cell k)) phase.reached (λ k l. there (phase.reached k) k)
    where
      there : (b : Bool) (k : ℕ) → is_some (if b then Some (phase.rows k cell) else None) ≡ b
      there true k = refl
      there false k = refl

  accusers_count : (i : ℕ) → accusers_of (rows_in size phase cell) i ≡ count size.replicas (accusing_in phase cell i)
  accusers_count i = counted (accuses i) size.replicas (shown_in phase cell) ∙ count_same size.replicas (λ k. accuses i (shown_in phase cell k)) (accusing_in phase cell i) (λ k l. there (phase.reached k) k)
    where
      there : (b : Bool) (k : ℕ) → accuses i (if b then Some (phase.rows k cell) else None) ≡ (b && accuses i (Some (phase.rows k cell)))
      there true k = refl
      there false k = refl

  by_count : (i : ℕ) → IsSoundIn size phase cell i → IsSoundByCount size phase cell i
  by_count i s =
      let l = row_within size.replicas (shown_in phase cell) i s.row s.reached in
      let r = shows i s.row (sym (row_at size.replicas (shown_in phase cell) i l) ∙ s.reached) in
      record {
        replica = l;
        reached = r.0;
        present = ap (λ (row : Row). row.present) r.1 ∙ s.present;
        trusts_itself = ap (λ (row : Row). not (slice_index row.pending i == 0)) r.1 ∙ ap not (eq-eqb (slice_index s.row.pending i) 0 s.trusts_itself);
        few = omega (arith, s.few_accusers, reached_count, accusers_count i);
      }

  zero_counter : (x : ℕ) → not (x == 0) ≡ false → x ≡ 0
  zero_counter x e = by_case (x == 0) refl e where
    by_case : (b : Bool) → (x == 0) ≡ b → not b ≡ false → x ≡ 0
    by_case true is h = eqb-true x 0 is
    by_case false is h = absurd cc

  of_count : (i : ℕ) → IsSoundByCount size phase cell i → IsSoundIn size phase cell i
  of_count i c = record {
    row = phase.rows i cell;
    reached = row_at size.replicas (shown_in phase cell) i c.replica ∙ shown i c.reached;
    present = c.present;
    trusts_itself = zero_counter (slice_index (phase.rows i cell).pending i) c.trusts_itself;
    few_accusers = omega (arith, c.few, reached_count, accusers_count i);
  }

pub soundness_is_counted : SoundnessIsCounted
soundness_is_counted size phase cell i = (by_count size phase cell i, of_count size phase cell i)

pub sound_has_few_accusers : SoundHasFewAccusers
sound_has_few_accusers size phase cell i accusers is s agree =
    let c = by_count size phase cell i s in
    let n = size.replicas in
    omega (
      arith,
      is.odd,
      c.few,
      count_split n accusers phase.reached,
      count_outside n phase.reached,
      count_within n (λ k. not (phase.reached k) && accusers k) (λ k. not (phase.reached k)) (λ k l h. both_left _ _ h),
      count_within n (λ k. phase.reached k && accusers k) (accusing_in phase cell i) (λ k l h. both _ _ (both_left _ _ h) (sym (agree k (both_left _ _ h)) ∙ both_right _ _ h)),
    )
