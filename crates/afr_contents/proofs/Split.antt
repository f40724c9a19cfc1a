-- A lock phase that reached every replica finds a sound one.
use Rattle.std.proofs.Common.{◌≡◌, ◌∙◌, ℕ, zero, suc, ◌+◌, ◌-◌, ◌≤◌, ◌<◌, Bool, true, false, refl, sym, ap, subst, ◌⊎◌, inl, inr, arith, Some}
use Rattle.std.specs.Prelude.{List, [], ◌==◌, not, slice_index}
use Rattle.std.proofs.lemmas.Bool.{cases_lt}
use Rattle.fop_types.specs.declared.cells.Cell.{Cell}
use Rattle.fop_types.specs.declared.contents.Row.{Row}
use Rattle.afr_changelog.specs.Soundness.{accuses}
use Rattle.afr_machine.specs.Replicas.{Size, IsSize, Replicas, one_if, count}
use Rattle.afr_machine.specs.Touching.{has_cell}
use Rattle.afr_machine.specs.Copies.{rows_of}
use Rattle.afr_machine.specs.Phases.{Deciding, HasSound, IsSoundIn, IsReadyIn}
use Rattle.afr_machine.specs.Phases.Deciding.{NoChange, ByPosts, BySettles}
use Rattle.afr_machine.specs.States.{State}
use Rattle.afr_machine.specs.Steps.{IsReached}
use Rattle.afr_laws.specs.Fresh.{IsWritten}
use Rattle.afr_laws.specs.Rows.{accuses_at, accusing_in}
use Rattle.afr_laws.specs.Seen.{SeenStands}
use Rattle.afr_laws.specs.Sound.{comes, accusers_coming, IsLastPhase}
use Rattle.afr_laws.proofs.Bools.{apart_bools, both_right, neither_left, is_or_not, or_left}
use Rattle.afr_laws.proofs.Accusers.{rows_show_accusers}
use Rattle.afr_laws.proofs.Counts.{count_within}
use Rattle.afr_laws.proofs.Fresh.Steps.{step_phases, every_cell_is_fresh}
use Rattle.afr_laws.proofs.Seen.Steps.{keeps_seen}
use Rattle.afr_laws.proofs.Sound.{soundness_is_counted}
use Rattle.afr_soundness.specs.Clears.{IsFree}
use Rattle.afr_soundness.specs.Deciding.{IsAccusedBy}
use Rattle.afr_soundness.specs.Takers.{HasSpared, TakersAre}
use Rattle.afr_soundness.proofs.Deciding.Whose.{decides_exactly}
use Rattle.afr_soundness.proofs.Free.{keeps_free}
use Rattle.afr_soundness.proofs.Guarded.{LastOf, last_of}
use Rattle.afr_soundness.proofs.Takers.Steps.{takers_are}
use Rattle.afr_soundness.proofs.Written.{written_has_sound}
use Rattle.afr_contents.specs.Earlier.{MayWrite, KnowsCopy}
use Rattle.afr_contents.specs.Split.{SawAll, SeenAllHasSound}
use Rattle.afr_contents.proofs.Earlier.{known_is_shown}

pub count_all : (n : ℕ) (a : Replicas) → ((k : ℕ) → k < n → a k ≡ true) → n ≤ count n a
count_all zero a h = omega arith
count_all (suc n) a h =
    let rest = count_all n a (λ k low. h k (omega (arith, low))) in
    let here : one_if (a n) ≡ 1 = ap one_if (h n (omega arith)) in
    omega (arith, rest, here)

count_none : (n : ℕ) (a : Replicas) → ((k : ℕ) → a k ≡ false) → count n a ≡ 0
count_none zero a none = refl
count_none (suc n) a none = omega (arith, ap one_if (none n), count_none n a none)

module _ (size : Size) (m : State) (is : IsSize size) (r : IsReached size m) (p : ℕ) (cell : Cell) (s : SawAll size m p cell) where
  stands : (k : ℕ) → k < size.replicas → SeenStands (m.phases p) cell k (m.bricks k)
  stands k low = (keeps_seen size m is r).seen p k cell s.one s.low s.covers (s.all k low) s.unwritten s.last

  -- the rows that it saw accuse as those that are there
  accuses_same : (k i : ℕ) → k < size.replicas → i < size.replicas → accuses i (Some ((m.phases p).rows k cell)) ≡ accuses_at (m.bricks k).store cell i
  accuses_same k i low few = same ((m.phases p).rows k cell) (rows_of (m.bricks k).store cell) (stands k low).row.counters ∙ rows_show_accusers (m.bricks k).store cell i (omega (arith, few, is.few)) where
    same : (shown now : Row) → now.pending ≡ shown.pending → accuses i (Some shown) ≡ accuses i (Some now)
    same shown now e = ap (λ (l : List ℕ). not (slice_index l i == 0)) (sym e)

  -- so whoever was shown, and few accuse, is sound
  module _ (i : ℕ) (low : i < size.replicas) (shown : ((m.phases p).rows i cell).present ≡ true) (itself : accuses_at (m.bricks i).store cell i ≡ false) (few : count size.replicas (λ k. accuses_at (m.bricks k).store cell i) < size.quorum) where
    few_count : count size.replicas (accusing_in (m.phases p) cell i) + (size.replicas - size.quorum) < count size.replicas (m.phases p).reached
    few_count =
        let less = count_within size.replicas (accusing_in (m.phases p) cell i) (λ k. accuses_at (m.bricks k).store cell i)
        (λ k there h. sym (accuses_same k i there low) ∙ both_right ((m.phases p).reached k) (accuses i (Some ((m.phases p).rows k cell))) h) in
        let every = count_all size.replicas (m.phases p).reached s.all in
        let odd = is.odd in
        omega (arith, less, every, few, odd)

    few_sound : IsSoundIn size (m.phases p) cell i
    few_sound = (soundness_is_counted size (m.phases p) cell i).1 (record { replica = low; reached = s.all i low; present = shown; trusts_itself = accuses_same i i low low ∙ itself; few = few_count })

  pub free_sound : (i : ℕ) → i < size.replicas → IsFree size m cell i → ((m.phases p).rows i cell).present ≡ true → IsSoundIn size (m.phases p) cell i
  free_sound i low free shown =
      let less = count_within size.replicas (λ k. accuses_at (m.bricks k).store cell i) (accusers_coming m cell i) (λ k there h. or_left (accuses_at (m.bricks k).store cell i) (comes (m.bricks k).line cell i) h) in
      let few = free.few in
      few_sound i low shown (neither_left (accuses_at (m.bricks i).store cell i) (comes (m.bricks i).line cell i) free.itself) (omega (arith, less, few))

  -- ---- the rows show whom an earlier lock phase that wrote found ready

  pub ready_shown : (q i : ℕ) → 1 ≤ q → q ≤ m.ended → (m.phases q).wrote ≡ true → has_cell (m.phases q).cells cell ≡ true → i < size.replicas → IsReadyIn size (m.phases q) cell i → ((m.phases p).rows i cell).present ≡ true
  ready_shown q i one low wrote covers few ready = by_order (cases_lt q p) (cases_lt p q) where
    copy : IsReadyIn size (m.phases q) cell i → KnowsCopy m q i cell
    copy (inl sound) = let c = (soundness_is_counted size (m.phases q) cell i).0 sound in KnowsCopy.Saw c.reached c.present
    copy (inr copied) = KnowsCopy.Cleared i copied.itself

    by_order : (q < p) ⊎ (p ≤ q) → (p < q) ⊎ (q ≤ p) → ((m.phases p).rows i cell).present ≡ true
    by_order (inl before) order = (known_is_shown size m r).ended p q i cell s.low before s.covers (s.all i few) (record { one = one; low = low; covers = covers; writes = MayWrite.Wrote wrote; copy = copy ready })
    by_order (inr from) (inl after_it) = absurd (s.last (record { by = q; later = after_it; low = low; wrote = wrote; covers = covers }))
    by_order (inr from) (inr to) = apart_bools wrote (subst (λ n. (m.phases n).wrote ≡ false) (let e : p ≡ q = omega (arith, from, to) in e) s.unwritten)

  -- ---- the last lock phase over the cell that wrote

  record ReadyFree (q : ℕ) : Type 0 where
    replica : ℕ
    few : replica < size.replicas
    ready : IsReadyIn size (m.phases q) cell replica
    free : IsFree size m cell replica

  module _ (q : ℕ) (l : IsLastPhase m q cell) where
    of_spared : HasSpared size (m.phases q) → ReadyFree q
    of_spared h = record { replica = h.taker; few = h.takes.replica; ready = h.takes.ready cell l.covers; free = (keeps_free size m is r).last.members q h.taker cell l (h.takes.ready cell l.covers) h.spared }

    by_decision : (decides : Deciding) → (m.phases q).decides ≡ decides → TakersAre size m.changes (m.phases q) decides → IsAccusedBy size m.changes decides (m.phases q).accused → ReadyFree q
    by_decision NoChange same takers nobody =
        let found = written_has_sound size m r q l.one l.low l.wrote same cell l.covers in
        let c = (soundness_is_counted size (m.phases q) cell found.member).0 found.sound in
        record { replica = found.member; few = c.replica; ready = inl found.sound; free = (keeps_free size m is r).last.members q found.member cell l (inl found.sound) (nobody found.member) }
    by_decision (ByPosts u) same takers accused = of_spared takers.1
    by_decision (BySettles u group adopts) same takers accused = of_spared takers.1

    sound_by : HasSound size (m.phases p) cell
    sound_by =
        let f = by_decision (m.phases q).decides refl (takers_are size m is r q l.one l.low) ((decides_exactly size m r).accused q l.one l.low) in
        record { member = f.replica; sound = free_sound f.replica f.few f.free (ready_shown q f.replica l.one l.low l.wrote l.covers f.few f.ready) }

  -- where none wrote, nobody is accused
  module _ (k : ℕ) (low : k < size.replicas) (shown : ((m.phases p).rows k cell).present ≡ true) where
    fresh_sound : (IsWritten m.phases m.ended cell → ⊥) → HasSound size (m.phases p) cell
    fresh_sound none = record { member = k; sound = few_sound k low shown (nobody k) (omega (arith, count_none size.replicas (λ j. accuses_at (m.bricks j).store cell k) nobody, is.odd, low)) } where
      nobody : (j : ℕ) → accuses_at (m.bricks j).store cell k ≡ false
      nobody j = by_case (is_or_not (accuses_at (m.bricks j).store cell k)) where
        by_case : (accuses_at (m.bricks j).store cell k ≡ true) ⊎ (accuses_at (m.bricks j).store cell k ≡ false) → accuses_at (m.bricks j).store cell k ≡ false
        by_case (inl some) = absurd (none (((every_cell_is_fresh size m is r).accusers j).rows cell k some))
        by_case (inr absent) = absent

both_or_not : (a b : Bool) → ((a ≡ true) × (b ≡ true)) ⊎ ((a ≡ true) × (b ≡ true) → ⊥)
both_or_not true true = inl (refl, refl)
both_or_not true false = inr (λ h. absurd (let e : false ≡ true = h.1 in cc))
both_or_not false b = inr (λ h. absurd (let e : false ≡ true = h.0 in cc))

-- number 0 is no lock phase's
phase_zero : (size : Size) (m : State) → IsReached size m → (m.phases 0).cells ≡ []
phase_zero size m IsReached.Start = refl
phase_zero size m (IsReached.Further old step reached allowed) = (step_phases size old step).cells 0 (omega arith) ∙ phase_zero size old reached

pub seen_all_has_sound : SeenAllHasSound
seen_all_has_sound size m is r p k cell s low shown = by_case (last_of (λ q. ((m.phases q).wrote ≡ true) × (has_cell (m.phases q).cells cell ≡ true)) (λ q. both_or_not (m.phases q).wrote (has_cell (m.phases q).cells cell)) m.ended) where
  none_written : ((at : ℕ) → 1 ≤ at → at ≤ m.ended → ((m.phases at).wrote ≡ true) × (has_cell (m.phases at).cells cell ≡ true) → ⊥) → IsWritten m.phases m.ended cell → ⊥
  none_written none w = by_order (cases_lt 0 w.phase) where
    by_order : (0 < w.phase) ⊎ (w.phase ≤ 0) → ⊥
    by_order (inl some) = none w.phase (omega (arith, some)) w.low (w.wrote, w.covers)
    by_order (inr zero_is) =
        let at : w.phase ≡ 0 = omega (arith, zero_is) in
        absurd (let no : false ≡ true = sym (ap (λ cs. has_cell cs cell) (phase_zero size m r)) ∙ sym (ap (λ n. has_cell (m.phases n).cells cell) at) ∙ w.covers in cc)

  by_case : LastOf (λ q. ((m.phases q).wrote ≡ true) × (has_cell (m.phases q).cells cell ≡ true)) m.ended ⊎ ((at : ℕ) → 1 ≤ at → at ≤ m.ended → ((m.phases at).wrote ≡ true) × (has_cell (m.phases at).cells cell ≡ true) → ⊥) → HasSound size (m.phases p) cell
  by_case (inl l) = sound_by size m is r p cell s l.number (record { one = l.one; low = l.low; covers = l.passes.1; wrote = l.passes.0; last = λ x. l.last x.by x.later x.low (x.wrote, x.covers) })
  by_case (inr none) = fresh_sound size m is r p cell s k low shown (none_written none)
