-- Somebody is free on all cells of an unsettled change, and on each cell that is present on a brick.
use Rattle.std.proofs.Common.{◌≡◌, ◌∙◌, ℕ, zero, suc, ◌≤◌, ◌<◌, Bool, true, false, refl, sym, ap, subst, ◌⊎◌, inl, inr, arith}
use Rattle.std.specs.Prelude.{◌≢◌, List, [], ◌∷◌}
use Rattle.std.proofs.lemmas.Bool.{cases_eq, cases_lt}
use Rattle.fop_types.specs.declared.cells.Cell.{Cell}
use Rattle.afr_machine.specs.Replicas.{Size, IsSize, Replicas, one_if, count}
use Rattle.afr_machine.specs.Touching.{is_cell, has_cell}
use Rattle.afr_machine.specs.Requests.{Input}
use Rattle.afr_machine.specs.Requests.Input.{Asked, Steered}
use Rattle.afr_machine.specs.Phases.{Deciding}
use Rattle.afr_machine.specs.Phases.Deciding.{NoChange, ByPosts, BySettles}
use Rattle.afr_machine.specs.States.{State}
use Rattle.afr_machine.specs.Steps.{IsReached}
use Rattle.afr_laws.specs.Senders.{EachInput}
use Rattle.afr_laws.specs.Rows.{accuses_at, adds}
use Rattle.afr_laws.specs.Fresh.{IsWritten}
use Rattle.afr_laws.specs.Sound.{comes, accusers_coming}
use Rattle.afr_laws.proofs.Bools.{is_or_not, or_right, neither}
use Rattle.afr_laws.proofs.Sharing.{cells_are}
use Rattle.afr_laws.proofs.Fresh.Steps.{step_phases, every_cell_is_fresh}
use Rattle.afr_soundness.specs.Replaced.{HasCopy}
use Rattle.afr_soundness.specs.Clears.{IsFree}
use Rattle.afr_soundness.specs.Later.{IsOf, IsMarked, IsOwnPhase}
use Rattle.afr_soundness.specs.Guarded.{OneIsFreeOn, UnsettledHasFree, EveryStateLeavesOneFree}
use Rattle.afr_soundness.proofs.Deciding.Whose.{unsettled_was}
use Rattle.afr_soundness.proofs.Marked.{each_is_marked}
use Rattle.afr_soundness.proofs.Free.{keeps_free}
use Rattle.afr_soundness.proofs.OwnFree.{free_on_all}

-- ---- the last number that passes a test

pub record LastOf (P : ℕ → Type 0) (top : ℕ) : Type 0 where
  pub number : ℕ
  pub one : 1 ≤ number
  pub low : number ≤ top
  pub passes : P number
  pub last : (at : ℕ) → number < at → at ≤ top → P at → ⊥

module _ (P : ℕ → Type 0) (test : (n : ℕ) → P n ⊎ (P n → ⊥)) (top : ℕ) where
  last_below : (n : ℕ) → n ≤ top → ((at : ℕ) → n < at → at ≤ top → P at → ⊥) → LastOf P top ⊎ ((at : ℕ) → 1 ≤ at → at ≤ top → P at → ⊥)
  last_below zero low none = inr (λ at one. none at (omega (arith, one)))
  last_below (suc n) low none = by_case (last_below n (omega (arith, low))) (test (suc n)) where
    above : (P (suc n) → ⊥) → (at : ℕ) → n < at → at ≤ top → P at → ⊥
    above other at over ended h = by_order (cases_eq at (suc n)) where
      by_order : (at ≡ suc n) ⊎ (at ≢ suc n) → ⊥
      by_order (inl same) = other (subst P same h)
      by_order (inr apart) = none at (omega (arith, over, apart)) ended h

    by_case : (((at : ℕ) → n < at → at ≤ top → P at → ⊥) → LastOf P top ⊎ ((at : ℕ) → 1 ≤ at → at ≤ top → P at → ⊥)) → P (suc n) ⊎ (P (suc n) → ⊥) → LastOf P top ⊎ ((at : ℕ) → 1 ≤ at → at ≤ top → P at → ⊥)
    by_case below (inl this) = inl (record { number = suc n; one = omega arith; low = low; passes = this; last = none })
    by_case below (inr other) = below (above other)

  pub last_of : LastOf P top ⊎ ((at : ℕ) → 1 ≤ at → at ≤ top → P at → ⊥)
  last_of = last_below top (omega arith) (λ at over below h. absurd (omega (arith, over, below)))

-- ---- an unsettled change

decides_or_not : (u : ℕ) (decides : Deciding) → IsOf u decides ⊎ (IsOf u decides → ⊥)
decides_or_not u NoChange = inr (λ h. h)
decides_or_not u (ByPosts v) = cases_eq v u
decides_or_not u (BySettles v group adopts) = cases_eq v u

pub unsettled_has_free : (size : Size) (m : State) → IsSize size → IsReached size m → UnsettledHasFree size m
unsettled_has_free size m is r u unsettled = by_last (last_of (λ p. IsOf u (m.phases p).decides) (λ p. decides_or_not u (m.phases p).decides) m.ended) where
  marked : IsMarked m u
  marked = each_is_marked size m r u (unsettled_was (m.changes u).verdict unsettled)

  on_all : (p : ℕ) → IsOwnPhase m p u → OneIsFreeOn size m (m.changes u).cells
  on_all p own = let f = free_on_all size m is r p u unsettled own in record { replica = f.replica; low = f.low; free = f.free }

  by_last : LastOf (λ p. IsOf u (m.phases p).decides) m.ended ⊎ ((at : ℕ) → 1 ≤ at → at ≤ m.ended → IsOf u (m.phases at).decides → ⊥) → OneIsFreeOn size m (m.changes u).cells
  by_last (inl l) = on_all l.number (record { one = l.one; low = l.low; decides = l.passes; last = l.last })
  by_last (inr none) = absurd (none marked.phase marked.one marked.low (subst (IsOf u) (sym marked.decides) refl))

-- ---- a cell that is present

both_or_not : (a b : Bool) → ((a ≡ true) × (b ≡ true)) ⊎ ((a ≡ true) × (b ≡ true) → ⊥)
both_or_not true true = inl (refl, refl)
both_or_not true false = inr (λ h. absurd (let e : false ≡ true = h.1 in cc))
both_or_not false b = inr (λ h. absurd (let e : false ≡ true = h.0 in cc))

-- number 0 is no lock phase's
phase_zero : (size : Size) (m : State) → IsReached size m → (m.phases 0).cells ≡ []
phase_zero size m IsReached.Start = refl
phase_zero size m (IsReached.Further old step reached allowed) = (step_phases size old step).cells 0 (omega arith) ∙ phase_zero size old reached

some_cell : (cells : List Cell) (cell : Cell) → cells ≡ [] → has_cell cells cell ≡ true → ⊥
some_cell cells cell none h = absurd (let e : false ≡ true = sym (ap (λ cs. has_cell cs cell) none) ∙ h in cc)

-- nobody of a set that is empty is counted
none_counted : (n : ℕ) (set : Replicas) → ((k : ℕ) → set k ≡ false) → count n set ≡ 0
none_counted zero set none = refl
none_counted (suc n) set none = omega (arith, ap one_if (none n), none_counted n set none)

module _ (size : Size) (m : State) (is : IsSize size) (r : IsReached size m) (k : ℕ) (cell : Cell) (there : k < size.replicas) (present : HasCopy m k cell) where
  on_cell : (replica : ℕ) → IsFree size m cell replica → (c : Cell) → has_cell (cell ∷ []) c ≡ true → IsFree size m c replica
  on_cell replica free c has = subst (λ d. IsFree size m d replica) (sym (cells_are c cell (sym (or_right (is_cell c cell)) ∙ has))) free

  abbrev Written : ℕ → Type 0
  Written p = ((m.phases p).wrote ≡ true) × (has_cell (m.phases p).cells cell ≡ true)

  by_last : LastOf Written m.ended → OneIsFreeOn size m (cell ∷ [])
  by_last l =
      let f = (keeps_free size m is r).last.one l.number cell (record { one = l.one; low = l.low; covers = l.passes.1; wrote = l.passes.0; last = λ s. l.last s.by s.later s.low (s.wrote, s.covers) }) in
      record { replica = f.replica; low = f.low; free = on_cell f.replica f.free }

  -- where no lock phase wrote, nobody is accused
  unwritten : (IsWritten m.phases m.ended cell → ⊥) → OneIsFreeOn size m (cell ∷ [])
  unwritten none = record { replica = k; low = there; free = on_cell k (record { present = present; itself = nobody k; few = omega (arith, none_counted size.replicas (accusers_coming m cell k) nobody, is.odd, there) }) } where
    comes_none : (j : ℕ) (line : List Input) → EachInput (λ by ask. (c : Cell) (i : ℕ) → adds ask c i ≡ true → IsWritten m.phases m.ended c) line → comes line cell k ≡ false
    comes_none j [] h = refl
    comes_none j (Asked by ask ∷ is1) h = neither (adds ask cell k) (comes is1 cell k) (by_case (is_or_not (adds ask cell k))) (comes_none j is1 h.1) where
      by_case : (adds ask cell k ≡ true) ⊎ (adds ask cell k ≡ false) → adds ask cell k ≡ false
      by_case (inl some) = absurd (none (h.0 cell k some))
      by_case (inr absent) = absent
    comes_none j (Steered control ∷ is1) h = comes_none j is1 h

    nobody : (j : ℕ) → accusers_coming m cell k j ≡ false
    nobody j = neither (accuses_at (m.bricks j).store cell k) (comes (m.bricks j).line cell k) (by_case (is_or_not (accuses_at (m.bricks j).store cell k))) (comes_none j (m.bricks j).line ((every_cell_is_fresh size m is r).accusers j).line) where
      by_case : (accuses_at (m.bricks j).store cell k ≡ true) ⊎ (accuses_at (m.bricks j).store cell k ≡ false) → accuses_at (m.bricks j).store cell k ≡ false
      by_case (inl some) = absurd (none (((every_cell_is_fresh size m is r).accusers j).rows cell k some))
      by_case (inr absent) = absent

  none_written : ((at : ℕ) → 1 ≤ at → at ≤ m.ended → Written at → ⊥) → IsWritten m.phases m.ended cell → ⊥
  none_written none w = by_order (cases_lt 0 w.phase) where
    by_order : (0 < w.phase) ⊎ (w.phase ≤ 0) → ⊥
    by_order (inl some) = none w.phase (omega (arith, some)) w.low (w.wrote, w.covers)
    by_order (inr zero_is) = some_cell (m.phases 0).cells cell (phase_zero size m r) (subst (λ q. has_cell (m.phases q).cells cell ≡ true) (let e : w.phase ≡ 0 = omega (arith, zero_is) in e) w.covers)

  by_case : LastOf Written m.ended ⊎ ((at : ℕ) → 1 ≤ at → at ≤ m.ended → Written at → ⊥) → OneIsFreeOn size m (cell ∷ [])
  by_case (inl l) = by_last l
  by_case (inr none) = unwritten (none_written none)

  present_free : OneIsFreeOn size m (cell ∷ [])
  present_free = by_case (last_of (λ p. ((m.phases p).wrote ≡ true) × (has_cell (m.phases p).cells cell ≡ true)) (λ p. both_or_not (m.phases p).wrote (has_cell (m.phases p).cells cell)) m.ended)

pub leaves_one_free : EveryStateLeavesOneFree
leaves_one_free size m is r = record { unsettled = unsettled_has_free size m is r; present = λ k cell there present. present_free size m is r k cell there present }
