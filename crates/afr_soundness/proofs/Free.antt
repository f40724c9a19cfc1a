-- A lock phase that decides a change, or copied, leaves somebody free.
use Rattle.std.proofs.Common.{◌≡◌, ◌∙◌, ℕ, ◌≤◌, true, false, refl, sym, subst, ◌⊎◌, inl, inr, arith}
use Rattle.std.specs.Prelude.{◌≢◌}
use Rattle.std.proofs.lemmas.Bool.{cases_eq}
use Rattle.fop_types.specs.declared.cells.Cell.{Cell}
use Rattle.afr_machine.specs.Replicas.{Size, IsSize}
use Rattle.afr_machine.specs.Touching.{has_cell}
use Rattle.afr_machine.specs.Phases.{Deciding, IsReadyIn}
use Rattle.afr_machine.specs.Phases.Deciding.{NoChange, ByPosts, BySettles}
use Rattle.afr_machine.specs.States.{State}
use Rattle.afr_machine.specs.Steps.{IsReached}
use Rattle.afr_laws.specs.Seen.{IsSuperseded}
use Rattle.afr_laws.specs.Sound.{IsSpared, IsLastPhase}
use Rattle.afr_laws.proofs.Sound.{soundness_is_counted}
use Rattle.afr_laws.proofs.LastPhase.Steps.{keeps_sound}
use Rattle.afr_soundness.specs.Deciding.{IsAccusedBy}
use Rattle.afr_soundness.specs.Takers.{HasSpared, TakersAre}
use Rattle.afr_soundness.specs.Clears.{IsFree}
use Rattle.afr_soundness.specs.Free.{HasFree, OneIsFree, HasFreeOn, LastPhaseFree, EveryLockPhaseLeavesOneFree}
use Rattle.afr_soundness.proofs.Deciding.Whose.{decides_exactly}
use Rattle.afr_soundness.proofs.Takers.Steps.{takers_are}
use Rattle.afr_soundness.proofs.Clears.{copied_is_free}
use Rattle.afr_soundness.proofs.Written.{written_has_sound}

-- whom the last lock phase does not accuse is spared from then on
pub last_spares : (m : State) (p i : ℕ) (cell : Cell) → (IsSuperseded m.phases m.ended p cell → ⊥) → (m.phases p).accused i ≡ false → IsSpared m p cell i
last_spares m p i cell last none = record { itself = none; later = later } where
  later : (at : ℕ) → p ≤ at → at ≤ m.ended → has_cell (m.phases at).cells cell ≡ true → (m.phases at).wrote ≡ true → (m.phases at).accused i ≡ false
  later at from low covers wrote = by_order (cases_eq at p) where
    by_order : (at ≡ p) ⊎ (at ≢ p) → (m.phases at).accused i ≡ false
    by_order (inl same) = subst (λ q. (m.phases q).accused i ≡ false) (sym same) none
    by_order (inr other) = absurd (last (record { by = at; later = omega (arith, from, other); low = low; wrote = wrote; covers = covers }))

module _ (size : Size) (m : State) (is : IsSize size) (r : IsReached size m) where
  -- whoever is ready and spared is free
  pub ready_is_free : (p : ℕ) (cell : Cell) → 1 ≤ p → p ≤ m.ended → has_cell (m.phases p).cells cell ≡ true → (i : ℕ) → IsReadyIn size (m.phases p) cell i → IsSpared m p cell i → IsFree size m cell i
  ready_is_free p cell one low covers i (inl sound) spared =
      let k = keeps_sound size m is r in
      record { present = (k.within p i cell one low covers sound spared).present; itself = (k.within p i cell one low covers sound spared).itself; few = k.free p i cell one low covers sound spared }
  ready_is_free p cell one low covers i (inr copied) spared = copied_is_free size m is r p i cell one low copied spared

  of_spared : (p : ℕ) → 1 ≤ p → p ≤ m.ended → HasSpared size (m.phases p) → HasFree size m p
  of_spared p one low h = record {
    replica = h.taker;
    low = h.takes.replica;
    reached = h.takes.reached;
    free = λ cell covers last. ready_is_free p cell one low covers h.taker (h.takes.ready cell covers) (last_spares m p h.taker cell last h.spared);
  }

  by_decision : (p : ℕ) → 1 ≤ p → p ≤ m.ended → (decides : Deciding) → (m.phases p).decides ≡ decides → (m.phases p).decides ≢ NoChange → TakersAre size m.changes (m.phases p) decides → HasFree size m p
  by_decision p one low NoChange same some h = absurd (some same)
  by_decision p one low (ByPosts u) same some h = of_spared p one low h.1
  by_decision p one low (BySettles u group adopts) same some h = of_spared p one low h.1

  one_is_free : OneIsFree size m
  one_is_free p one low some = by_decision p one low (m.phases p).decides refl some (takers_are size m is r p one low)

  -- ---- the last lock phase over a cell that wrote

  last_members : (p i : ℕ) (cell : Cell) → IsLastPhase m p cell → IsReadyIn size (m.phases p) cell i → (m.phases p).accused i ≡ false → IsFree size m cell i
  last_members p i cell l ready none = ready_is_free p cell l.one l.low l.covers i ready (last_spares m p i cell l.last none)

  -- it decides a change, or copied and accuses nobody
  last_one : (p : ℕ) (cell : Cell) → IsLastPhase m p cell → HasFreeOn size m p cell
  last_one p cell l = by_case (m.phases p).decides refl where
    decided : (m.phases p).decides ≢ NoChange → HasFreeOn size m p cell
    decided some = let f = one_is_free p l.one l.low some in record { replica = f.replica; low = f.low; reached = f.reached; free = f.free cell l.covers l.last }

    by_case : (decides : Deciding) → (m.phases p).decides ≡ decides → HasFreeOn size m p cell
    by_case NoChange none =
        let s = written_has_sound size m r p l.one l.low l.wrote none cell l.covers in
        let c = (soundness_is_counted size (m.phases p) cell s.member).0 s.sound in
        let nobody = subst (λ e. IsAccusedBy size m.changes e (m.phases p).accused) none ((decides_exactly size m r).accused p l.one l.low) in
        record { replica = s.member; low = c.replica; reached = c.reached; free = last_members p s.member cell l (inl s.sound) (nobody s.member) }
    by_case (ByPosts u) same = decided (λ none. let e : ByPosts u ≡ NoChange = sym same ∙ none in absurd cc)
    by_case (BySettles u group adopts) same = decided (λ none. let e : BySettles u group adopts ≡ NoChange = sym same ∙ none in absurd cc)

  last_phase_free : LastPhaseFree size m
  last_phase_free = record { members = last_members; one = last_one }

pub keeps_free : EveryLockPhaseLeavesOneFree
keeps_free size m is r = record { sound = written_has_sound size m r; deciding = one_is_free size m is r; last = last_phase_free size m is r }
