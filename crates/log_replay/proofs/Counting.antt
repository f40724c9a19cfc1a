-- How many numbers of a rising list are below a bound.
use Rattle.std.proofs.Common.{◌≡◌, refl, sym, ap, subst, ◌∙◌, ℕ, ◌+◌, ◌-◌, ◌<◌, ◌≤◌, zero, suc, ◌⊎◌, inl, inr, List, [], ◌∷◌, get_or, arith}
use Rattle.std.specs.Prelude.{Bool, true, false, nat_lt, if◌then◌else◌}
use Rattle.std.proofs.lemmas.Bool.{cases_eq, lt-ltb, le-ltb}
use Rattle.mount_log.specs.Submissions.{count_below}
use Rattle.log_replay.specs.Events.{IsCut}

pub rises_on : (numbers : List ℕ) (at : ℕ) → 1 ≤ at → get_or numbers (at - 1) 0 ≤ get_or numbers at 0
    → ((i j : ℕ) → i ≤ j → j < at → get_or numbers i 0 ≤ get_or numbers j 0)
    → (i j : ℕ) → i ≤ j → j < at + 1 → get_or numbers i 0 ≤ get_or numbers j 0
rises_on numbers at one next old i j order within = by_last (cases_eq j at) where
  before : (i ≡ at → ⊥) → get_or numbers i 0 ≤ get_or numbers (at - 1) 0
  before differs = old i (at - 1) (omega (arith, order, within, differs)) (omega (arith, one))

  by_first : (i ≡ at) ⊎ (i ≡ at → ⊥) → get_or numbers i 0 ≤ get_or numbers at 0
  by_first (inl same) = subst (λ (n : ℕ). get_or numbers n 0 ≤ get_or numbers at 0) (sym same) (omega arith)
  by_first (inr differs) = let low : get_or numbers i 0 ≤ get_or numbers (at - 1) 0 = before differs in omega (arith, low, next)

  by_last : (j ≡ at) ⊎ (j ≡ at → ⊥) → get_or numbers i 0 ≤ get_or numbers j 0
  by_last (inl same) = subst (λ (n : ℕ). get_or numbers i 0 ≤ get_or numbers n 0) (sym same) (by_first (cases_eq i at))
  by_last (inr differs) = old i j order (omega (arith, within, differs))

-- ---- a count

cut_rest : (n : ℕ) (numbers : List ℕ) (bound at : ℕ) → IsCut (n ∷ numbers) bound (suc at) → IsCut numbers bound at
cut_rest n numbers bound at h = record {
  within = let w = h.within in omega (arith, w);
  below = λ k l. h.below (suc k) (omega (arith, l));
  above = λ k m l. h.above (suc k) (omega (arith, m)) (omega (arith, l));
}

cut_none : (n : ℕ) (numbers : List ℕ) (bound : ℕ) → IsCut (n ∷ numbers) bound 0 → IsCut numbers bound 0
cut_none n numbers bound h = record {
  within = omega arith;
  below = λ k l. absurd (omega (arith, l));
  above = λ k m l. h.above (suc k) (omega arith) (omega (arith, l));
}

pub counted : (bound : ℕ) (numbers : List ℕ) (at : ℕ) → IsCut numbers bound at → at ≡ count_below bound numbers
counted bound [] zero h = refl
counted bound [] (suc at) h = absurd (let w = h.within in omega (arith, w))
counted bound (n ∷ numbers) zero h =
    let first : nat_lt n bound ≡ false = le-ltb n bound (h.above 0 (omega arith) (omega arith)) in
    let rest : 0 ≡ count_below bound numbers = counted bound numbers 0 (cut_none n numbers bound h) in
    let none : 0 ≡ 0 + count_below bound numbers = omega (arith, rest) in
    none ∙ ap (λ (b : Bool). (if b then 1 else 0) + count_below bound numbers) (sym first)
counted bound (n ∷ numbers) (suc at) h =
    let first : nat_lt n bound ≡ true = lt-ltb n bound (h.below 0 (omega arith)) in
    let rest : at ≡ count_below bound numbers = counted bound numbers at (cut_rest n numbers bound at h) in
    let one : suc at ≡ 1 + count_below bound numbers = omega (arith, rest) in
    one ∙ ap (λ (b : Bool). (if b then 1 else 0) + count_below bound numbers) (sym first)
