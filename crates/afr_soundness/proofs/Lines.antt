-- What is on its way to the bricks of a lock phase, over every list of steps.
use Rattle.std.proofs.Common.{◌≡◌, ◌∙◌, ℕ, ◌≤◌, ◌<◌, Bool, true, false, refl, sym, ap, subst, ◌⊎◌, inl, inr, arith}
use Rattle.std.specs.Prelude.{◌≢◌, List, [], ◌∷◌}
use Rattle.std.proofs.lemmas.Bool.{cases_eq}
use Rattle.fop_types.specs.declared.cells.Cell.{Cell}
use Rattle.afr_machine.specs.Replicas.{Size, IsSize, Replicas}
use Rattle.afr_machine.specs.Touching.{has_cell}
use Rattle.afr_machine.specs.Requests.{Sender, Ask, Input}
use Rattle.afr_machine.specs.Requests.Ask.{Post, Settle}
use Rattle.afr_machine.specs.Requests.Input.{Asked, Steered}
use Rattle.afr_machine.specs.Phases.{Phase}
use Rattle.afr_machine.specs.States.{State, phase_of}
use Rattle.afr_machine.specs.Sending.{MayAsk, asks_of, inputs_of, sender_of}
use Rattle.afr_machine.specs.Steps.{Step, Allowed, after, IsReached}
use Rattle.afr_machine.specs.Moves.{IsTaken}
use Rattle.afr_machine.proofs.BrickMoves.{bricks_move}
use Rattle.afr_laws.specs.Senders.{EachInput}
use Rattle.afr_laws.specs.Rows.{adds}
use Rattle.afr_laws.specs.Seen.{IsSuperseded, altering}
use Rattle.afr_laws.specs.Sound.{IsAccusedIn, IsSpared}
use Rattle.afr_laws.proofs.Bools.{is_or_not, apart_bools, both_left, both_right}
use Rattle.afr_laws.proofs.Fresh.Phased.{PhasesGo}
use Rattle.afr_laws.proofs.Fresh.Known.{phases_are_known}
use Rattle.afr_laws.proofs.Fresh.Steps.{ended_goes, step_phases}
use Rattle.afr_laws.proofs.Standing.Alone.{move_each}
use Rattle.afr_laws.proofs.Overtaken.Steps.{PhaseFrom, phase_from, ended_most}
use Rattle.afr_laws.proofs.Overtaken.Steps.PhaseFrom.{Old, Now}
use Rattle.afr_laws.proofs.OwnPhases.{keeps_phases}
use Rattle.afr_laws.proofs.Seen.Steps.{IsWrittenFrom, sent_later, seen_rows_stand}
use Rattle.afr_laws.proofs.LastPhase.Accused.{accused_are_known}
use Rattle.afr_soundness.specs.Lines.{OwnAlterAlone, SparedAreLeft, EveryLineIsApart}

adds_alters : (ask : Ask) (cell : Cell) (i : ℕ) → adds ask cell i ≡ true → altering ask cell ≡ true
adds_alters (Post u cells accused) cell i h = both_left (has_cell cells cell) (accused i) h
adds_alters (Settle u cells accused) cell i h = both_left (has_cell cells cell) (accused i) h
adds_alters other cell i h = absurd (let e : false ≡ true = h in cc)

calm_adds : (ask : Ask) (cell : Cell) (i : ℕ) → altering ask cell ≡ false → adds ask cell i ≡ false
calm_adds ask cell i calm = by_case (is_or_not (adds ask cell i)) where
  by_case : (adds ask cell i ≡ true) ⊎ (adds ask cell i ≡ false) → adds ask cell i ≡ false
  by_case (inl added) = apart_bools (adds_alters ask cell i added) calm
  by_case (inr none) = none

pub each_of : (P Q : Sender → Ask → Type 0) → ((by : Sender) (ask : Ask) → P by ask → Q by ask) → (line : List Input) → EachInput P line → EachInput Q line
each_of P Q more [] h = tt
each_of P Q more (Asked by ask ∷ is) h = (more by ask h.0, each_of P Q more is h.1)
each_of P Q more (Steered control ∷ is) h = each_of P Q more is h

-- ---- one step

module _ (size : Size) (m : State) (r : IsReached size m) (is : IsSize size) (step : Step) (allowed : Allowed size m step) (p k : ℕ) (cell : Cell) where
  abbrev new : State
  new = after size m step

  goes : PhasesGo m.ended m.phases (after size m step).phases
  goes = step_phases size m step

  module _ (low : p ≤ m.ended) (covers : has_cell (m.phases p).cells cell ≡ true) (reached : (m.phases p).reached k ≡ true) where
    abbrev IsFrom : ℕ → Type 0
    IsFrom at = IsWrittenFrom size m r is step allowed (seen_rows_stand size m is r) p k cell p at

    -- what holds of requests that leave the cell alone, and of those that are sent by whoever is behind this lock phase or a
    -- later one that wrote, goes on holding of the line
    module _ (P : Sender → Ask → Type 0) (calm : (by : Sender) (ask : Ask) → altering ask cell ≡ false → P by ask)
        (sent : (t : ℕ) (first : Bool) (ask : Ask) → step ≡ Step.Asks t k first ask → MayAsk size m t k ask → altering ask cell ≡ true → IsFrom (m.txns t).phase → P (sender_of m t k) ask) where
      ask_holds : (t : ℕ) (first : Bool) (ask : Ask) → step ≡ Step.Asks t k first ask → MayAsk size m t k ask → P (sender_of m t k) ask
      ask_holds t first ask step_is may = by_case (is_or_not (altering ask cell)) where
        by_case : (altering ask cell ≡ true) ⊎ (altering ask cell ≡ false) → P (sender_of m t k) ask
        by_case (inl alter) = sent t first ask step_is may alter (sent_later size m r is step allowed (seen_rows_stand size m is r) p k cell low covers reached t first ask step_is may alter)
        by_case (inr none) = calm (sender_of m t k) ask none

      inputs_hold : (by : Sender) (first : Bool) (ask : Ask) → P by ask → EachInput P (inputs_of by (asks_of first ask))
      inputs_hold by true ask h = (calm by Ask.OpenFirst refl, (h, tt))
      inputs_hold by false ask h = (h, tt)

      taken_hold : (st : Step) → step ≡ st → Allowed size m st → (inputs : List Input) → IsTaken m st k inputs → EachInput P inputs
      taken_hold (Step.Asks t j first ask) step_is h inputs taken =
          let may : MayAsk size m t k ask = subst (λ n. MayAsk size m t n ask) (sym taken.0) h.0 in
          let inputs_are : inputs ≡ inputs_of (sender_of m t k) (asks_of first ask) = taken.1 ∙ ap (λ n. inputs_of (sender_of m t n) (asks_of first ask)) (sym taken.0) in
          subst (EachInput P) (sym inputs_are) (inputs_hold (sender_of m t k) first ask (ask_holds t first ask (step_is ∙ ap (λ n. Step.Asks t n first ask) (sym taken.0)) may))
      taken_hold (Step.Controls j steering) step_is h inputs taken = subst (EachInput P) (sym taken.1) tt
      taken_hold (Step.Connects j g) step_is h inputs taken = subst (EachInput P) (sym taken.1) tt
      taken_hold (Step.Cuts j g) step_is h inputs taken = subst (EachInput P) (sym taken.1) tt
      taken_hold other step_is h inputs taken = absurd taken

      line_holds : EachInput P (m.bricks k).line → EachInput P (new.bricks k).line
      line_holds was = move_each (IsTaken m step k) (m.bricks k) (new.bricks k) P (taken_hold step refl allowed) was (bricks_move size m step allowed k)

    -- ---- whoever alters the cell

    own_alter : (IsSuperseded new.phases new.ended p cell → ⊥) → 1 ≤ p → EachInput (λ by ask. altering ask cell ≡ true → by.txn ≡ (m.phases p).by) (m.bricks k).line → EachInput (λ by ask. altering ask cell ≡ true → by.txn ≡ (m.phases p).by) (new.bricks k).line
    own_alter last one was = line_holds (λ by ask. altering ask cell ≡ true → by.txn ≡ (m.phases p).by) (λ by ask none alter. apart_bools alter none) mine was where
      mine : (t : ℕ) (first : Bool) (ask : Ask) → step ≡ Step.Asks t k first ask → MayAsk size m t k ask → altering ask cell ≡ true → IsFrom (m.txns t).phase → altering ask cell ≡ true → t ≡ (m.phases p).by
      mine t first ask step_is may alter w again = by_order (cases_eq (m.txns t).phase p) where
        by_order : ((m.txns t).phase ≡ p) ⊎ ((m.txns t).phase ≢ p) → t ≡ (m.phases p).by
        by_order (inl same) = sym (ap (λ q. (m.phases q).by) (sym same) ∙ (keeps_phases size m r).own t (subst (λ q. 1 ≤ q) (sym same) one))
        by_order (inr other) = absurd (last (record { by = (m.txns t).phase; later = omega (arith, w.from, other); low = w.low; wrote = w.wrote; covers = w.covers }))

    -- ---- whoever is spared

    none_accuse : (i : ℕ) → IsSpared new p cell i → EachInput (λ by ask. adds ask cell i ≡ false) (m.bricks k).line → EachInput (λ by ask. adds ask cell i ≡ false) (new.bricks k).line
    none_accuse i spared was = line_holds (λ by ask. adds ask cell i ≡ false) (λ by ask none. calm_adds ask cell i none) mine was where
      accused_by : (t : ℕ) (a : Ask) → MayAsk size m t k a → adds a cell i ≡ true → (phase_of m t).accused i ≡ true
      accused_by t (Post u cells accused) h e = (subst (λ st. IsAccusedIn size m.changes st (phase_of m t)) h.turn (accused_are_known size m r t)) i (sym (ap (λ (f : Replicas). f i) h.accused_are) ∙ both_right (has_cell cells cell) (accused i) e)
      accused_by t (Settle u cells accused) h e = (subst (λ st. IsAccusedIn size m.changes st (phase_of m t)) h.turn (accused_are_known size m r t)) i (sym (ap (λ (f : Replicas). f i) h.accused_are) ∙ both_right (has_cell cells cell) (accused i) e)
      accused_by t other h e = absurd (let no : false ≡ true = e in cc)

      mine : (t : ℕ) (first : Bool) (ask : Ask) → step ≡ Step.Asks t k first ask → MayAsk size m t k ask → altering ask cell ≡ true → IsFrom (m.txns t).phase → adds ask cell i ≡ false
      mine t first ask step_is may alter w = by_case (is_or_not (adds ask cell i)) where
        by_case : (adds ask cell i ≡ true) ⊎ (adds ask cell i ≡ false) → adds ask cell i ≡ false
        by_case (inl added) = apart_bools (goes.accused (m.txns t).phase (phases_are_known size m r t).low i (accused_by t ask may added)) (spared.later (m.txns t).phase w.from w.low w.covers w.wrote)
        by_case (inr none) = none

-- ---- who is spared was spared, and what superseded did before

module _ (size : Size) (m : State) (step : Step) (p : ℕ) (low : p ≤ m.ended) (cell : Cell) where
  pub was_spared : (i : ℕ) → IsSpared (after size m step) p cell i → IsSpared m p cell i
  was_spared i spared = record {
    itself = not_before p low spared.itself;
    later = λ at from before over wrote.
        not_before at before (spared.later at from (omega (arith, before, ended_goes size m step)) (ap (λ cs. has_cell cs cell) ((step_phases size m step).cells at before) ∙ over) ((step_phases size m step).wrote at before wrote));
  }
    where
      not_before : (at : ℕ) → at ≤ m.ended → ((after size m step).phases at).accused i ≡ false → (m.phases at).accused i ≡ false
      not_before at before none = by_case (is_or_not ((m.phases at).accused i)) where
        by_case : ((m.phases at).accused i ≡ true) ⊎ ((m.phases at).accused i ≡ false) → (m.phases at).accused i ≡ false
        by_case (inl accused) = apart_bools ((step_phases size m step).accused at before i accused) none
        by_case (inr lacks) = lacks

  pub was_last : (IsSuperseded (after size m step).phases (after size m step).ended p cell → ⊥) → IsSuperseded m.phases m.ended p cell → ⊥
  was_last last s = last (record {
    by = s.by;
    later = s.later;
    low = omega (arith, s.low, ended_goes size m step);
    wrote = (step_phases size m step).wrote s.by s.low s.wrote;
    covers = ap (λ cs. has_cell cs cell) ((step_phases size m step).cells s.by s.low) ∙ s.covers;
  })

-- ---- the lock phase that ends now

module _ (size : Size) (m : State) (r : IsReached size m) (is : IsSize size) (step : Step) (allowed : Allowed size m step) (p k : ℕ) (cell : Cell) where
  -- nothing in the line alters the cell
  calm_now : 1 ≤ p → p ≤ (after size m step).ended → m.ended < p → ((after size m step).phases p).wrote ≡ false → has_cell ((after size m step).phases p).cells cell ≡ true → ((after size m step).phases p).reached k ≡ true →
      EachInput (λ by ask. altering ask cell ≡ false) ((after size m step).bricks k).line
  calm_now one low beyond unwritten covers reached = (seen_rows_stand size (after size m step) is (IsReached.Further m step r allowed) p k cell one low covers reached unwritten none).line where
    none : IsSuperseded (after size m step).phases (after size m step).ended p cell → ⊥
    none s = absurd (omega (arith, s.later, s.low, ended_most size m step allowed, beyond))

  old_covers : p ≤ m.ended → has_cell ((after size m step).phases p).cells cell ≡ true → has_cell (m.phases p).cells cell ≡ true
  old_covers low covers = sym (ap (λ cs. has_cell cs cell) ((step_phases size m step).cells p low)) ∙ covers

  old_reached : p ≤ m.ended → ((after size m step).phases p).reached k ≡ true → (m.phases p).reached k ≡ true
  old_reached low reached = sym (ap (λ (f : Replicas). f k) ((step_phases size m step).reached p low)) ∙ reached

  own_after : OwnAlterAlone m → 1 ≤ p → p ≤ (after size m step).ended → has_cell ((after size m step).phases p).cells cell ≡ true → ((after size m step).phases p).reached k ≡ true → (IsSuperseded (after size m step).phases (after size m step).ended p cell → ⊥) → PhaseFrom size m (after size m step) p →
      EachInput (λ by ask. altering ask cell ≡ true → by.txn ≡ ((after size m step).phases p).by) ((after size m step).bricks k).line
  own_after was one low covers reached last (Old before) =
      subst (λ t. EachInput (λ by ask. altering ask cell ≡ true → by.txn ≡ t) ((after size m step).bricks k).line) (sym ((step_phases size m step).by p before))
      (own_alter size m r is step allowed p k cell before (old_covers before covers) (old_reached before reached) last one (was p k cell one before (old_covers before covers) (old_reached before reached) (was_last size m step p before cell last)))
  own_after was one low covers reached last (Now t may at phase_is bricks) =
      each_of (λ by ask. altering ask cell ≡ false) (λ by ask. altering ask cell ≡ true → by.txn ≡ ((after size m step).phases p).by) (λ by ask none alter. apart_bools alter none) ((after size m step).bricks k).line
      (calm_now one low (omega (arith, at)) (ap (λ (q : Phase). q.wrote) phase_is) covers reached)

  spared_after : SparedAreLeft m → (i : ℕ) → 1 ≤ p → p ≤ (after size m step).ended → has_cell ((after size m step).phases p).cells cell ≡ true → ((after size m step).phases p).reached k ≡ true → IsSpared (after size m step) p cell i → PhaseFrom size m (after size m step) p →
      EachInput (λ by ask. adds ask cell i ≡ false) ((after size m step).bricks k).line
  spared_after was i one low covers reached spared (Old before) =
      none_accuse size m r is step allowed p k cell before (old_covers before covers) (old_reached before reached) i spared (was p k i cell one before (old_covers before covers) (old_reached before reached) (was_spared size m step p before cell i spared))
  spared_after was i one low covers reached spared (Now t may at phase_is bricks) =
      each_of (λ by ask. altering ask cell ≡ false) (λ by ask. adds ask cell i ≡ false) (λ by ask none. calm_adds ask cell i none) ((after size m step).bricks k).line
      (calm_now one low (omega (arith, at)) (ap (λ (q : Phase). q.wrote) phase_is) covers reached)

-- ---- every list of steps

pub own_alter_alone : (size : Size) (m : State) → IsSize size → IsReached size m → OwnAlterAlone m
own_alter_alone size m is IsReached.Start = λ p k cell one low covers reached last. absurd (omega (arith, one, low))
own_alter_alone size m is (IsReached.Further old step reached allowed) = λ p k cell one low covers there last. own_after size old reached is step allowed p k cell (own_alter_alone size old is reached) one low covers there last (phase_from size old step allowed p low)

pub spared_are_left : (size : Size) (m : State) → IsSize size → IsReached size m → SparedAreLeft m
spared_are_left size m is IsReached.Start = λ p k i cell one low covers reached spared. absurd (omega (arith, one, low))
spared_are_left size m is (IsReached.Further old step reached allowed) = λ p k i cell one low covers there spared. spared_after size old reached is step allowed p k cell (spared_are_left size old is reached) i one low covers there spared (phase_from size old step allowed p low)

pub keeps_lines_apart : EveryLineIsApart
keeps_lines_apart size m is reached = record { own = own_alter_alone size m is reached; spared = spared_are_left size m is reached }
