-- Who was sound in a lock phase, and is spared from then on, keeps few accusers, over every list of steps.
use Rattle.std.proofs.Common.{◌≡◌, ◌∙◌, ℕ, ◌+◌, ◌≤◌, ◌<◌, Bool, true, false, refl, sym, ap, subst, ◌⊎◌, inl, inr, arith, Some}
use Rattle.std.proofs.lemmas.Bool.{cases_eq}
use Rattle.std.specs.Prelude.{List, [], ◌∷◌, ◌≢◌, ◌||◌, ◌&&◌, ◌-◌, not}
use Rattle.fop_types.specs.declared.cells.Cell.{Cell}
use Rattle.fop_types.specs.declared.contents.Row.{Row}
use Rattle.afr_changelog.specs.Soundness.{accuses}
use Rattle.afr_machine.specs.Replicas.{Size, IsSize, Replicas, count}
use Rattle.afr_machine.specs.Touching.{has_cell}
use Rattle.afr_machine.specs.Copies.{rows_of}
use Rattle.afr_machine.specs.Requests.{Sender, Ask, Input}
use Rattle.afr_machine.specs.Requests.Ask.{Post, Settle}
use Rattle.afr_machine.specs.Requests.Input.{Asked, Steered}
use Rattle.afr_machine.specs.Phases.{Phase}
use Rattle.afr_machine.specs.States.{State, phase_of}
use Rattle.afr_machine.specs.Sending.{MayAsk, asks_of, inputs_of, sender_of}
use Rattle.afr_machine.specs.Steps.{Step, Allowed, after, IsReached}
use Rattle.afr_machine.specs.Moves.{IsTaken}
use Rattle.afr_machine.proofs.BrickMoves.{bricks_move}
use Rattle.afr_laws.specs.Senders.{EachInput}
use Rattle.afr_laws.specs.Rows.{accuses_at, adds, accusing_in, IsSoundByCount}
use Rattle.afr_laws.specs.Seen.{IsSuperseded, altering, SeenRowsStand}
use Rattle.afr_laws.specs.Sound.{IsAccusedIn, comes, accuses_coming, accusers_coming, IsSpared, HasFewAccusers, SoundWithinReached, SoundIsFree, LastPhaseFrees, EverySoundIsFree}
use Rattle.afr_laws.proofs.Bools.{or_right, is_or_not, apart_bools, both, both_left, both_right, neither}
use Rattle.afr_laws.proofs.Counts.{count_within, count_same, count_split, count_outside}
use Rattle.afr_laws.proofs.Accusers.{rows_show_accusers}
use Rattle.afr_laws.proofs.Sound.{soundness_is_counted}
use Rattle.afr_laws.proofs.Fresh.Phased.{PhasesGo}
use Rattle.afr_laws.proofs.Fresh.Known.{phases_are_known}
use Rattle.afr_laws.proofs.Fresh.Steps.{ended_goes, step_phases}
use Rattle.afr_laws.proofs.Overtaken.Steps.{PhaseFrom, phase_from, ended_most}
use Rattle.afr_laws.proofs.Overtaken.Steps.PhaseFrom.{Old, Now}
use Rattle.afr_laws.proofs.Seen.Steps.{sent_later, seen_rows_stand}
use Rattle.afr_laws.proofs.LastPhase.Accused.{accused_are_known}
use Rattle.afr_laws.proofs.LastPhase.Moves.{move_accuses, move_present}

-- ---- who accuses alters

adds_alters : (ask : Ask) (cell : Cell) (i : ℕ) → adds ask cell i ≡ true → altering ask cell ≡ true
adds_alters (Post u cells accused) cell i h = both_left (has_cell cells cell) (accused i) h
adds_alters (Settle u cells accused) cell i h = both_left (has_cell cells cell) (accused i) h
adds_alters other cell i h = absurd cc

none_comes : (cell : Cell) (i : ℕ) (line : List Input) → EachInput (λ by ask. altering ask cell ≡ false) line → comes line cell i ≡ false
none_comes cell i [] p = refl
none_comes cell i (Asked by ask ∷ is) p = neither (adds ask cell i) (comes is cell i) (by_case (is_or_not (adds ask cell i))) (none_comes cell i is p.1) where
  by_case : (adds ask cell i ≡ true) ⊎ (adds ask cell i ≡ false) → adds ask cell i ≡ false
  by_case (inl added) = apart_bools (adds_alters ask cell i added) p.0
  by_case (inr none) = none
none_comes cell i (Steered control ∷ is) p = none_comes cell i is p

sent_comes : (by : Sender) (first : Bool) (ask : Ask) (cell : Cell) (i : ℕ) → comes (inputs_of by (asks_of first ask)) cell i ≡ true → adds ask cell i ≡ true
sent_comes by true ask cell i h = sym (or_right (adds ask cell i)) ∙ h
sent_comes by false ask cell i h = sym (or_right (adds ask cell i)) ∙ h

-- a row accuses by its counters alone
by_counters : (i : ℕ) (a b : Row) → a.pending ≡ b.pending → accuses i (Some a) ≡ accuses i (Some b)
by_counters i a b same = ap (λ (counters : List ℕ). accuses i (Some (record a { pending = counters }))) same

-- ---- before a lock phase writes

module _ (size : Size) (m : State) (is : IsSize size) (seen : SeenRowsStand m) (p i : ℕ) (cell : Cell) (one : 1 ≤ p) (low : p ≤ m.ended) (covers : has_cell (m.phases p).cells cell ≡ true) (unwritten : (m.phases p).wrote ≡ false) (last : IsSuperseded m.phases m.ended p cell → ⊥) (sound : IsSoundByCount size (m.phases p) cell i) where
  -- the brick accuses by what the phase saw
  as_seen : (k : ℕ) → (m.phases p).reached k ≡ true → accusers_coming m cell i k ≡ accuses i (Some ((m.phases p).rows k cell))
  as_seen k reached =
      let s = seen p k cell one low covers reached unwritten last in
      ap (λ b. accuses_at (m.bricks k).store cell i || b) (none_comes cell i (m.bricks k).line s.line)
      ∙ or_right (accuses_at (m.bricks k).store cell i)
      ∙ sym (rows_show_accusers (m.bricks k).store cell i (omega (arith, sound.replica, is.few)))
      ∙ by_counters i (rows_of (m.bricks k).store cell) ((m.phases p).rows k cell) s.row.counters

  seen_few : HasFewAccusers size m (m.phases p) cell i
  seen_few = record {
    present = (seen p i cell one low covers sound.reached unwritten last).row.present sound.present;
    itself = as_seen i sound.reached ∙ sound.trusts_itself;
    few = subst (λ n. n + (size.replicas - size.quorum) < count size.replicas (m.phases p).reached) (count_same size.replicas (accusing_in (m.phases p) cell i) (λ k. (m.phases p).reached k && accusers_coming m cell i k) each) sound.few;
  }
    where
      each : (k : ℕ) → k < size.replicas → accusing_in (m.phases p) cell i k ≡ ((m.phases p).reached k && accusers_coming m cell i k)
      each k l = by_case (is_or_not ((m.phases p).reached k)) where
        by_case : ((m.phases p).reached k ≡ true) ⊎ ((m.phases p).reached k ≡ false) → accusing_in (m.phases p) cell i k ≡ ((m.phases p).reached k && accusers_coming m cell i k)
        by_case (inl has) = ap (λ b. (m.phases p).reached k && b) (sym (as_seen k has))
        by_case (inr lacks) = ap (λ b. b && accuses i (Some ((m.phases p).rows k cell))) lacks ∙ sym (ap (λ b. b && accusers_coming m cell i k) lacks)

-- ---- one step

module _ (size : Size) (m : State) (r : IsReached size m) (is : IsSize size) (step : Step) (allowed : Allowed size m step) (p i : ℕ) (cell : Cell) where
  abbrev new : State
  new = after size m step

  goes : PhasesGo m.ended m.phases (after size m step).phases
  goes = step_phases size m step

  module _ (low : p ≤ m.ended) (covers : has_cell (m.phases p).cells cell ≡ true) (spared : IsSpared new p cell i) where
    -- nobody sends a request to a brick that the phase reached which accuses it: only transactions behind this phase or a
    -- later one alter the cell there, and they do not accuse it
    sent_none : (t k : ℕ) (first : Bool) (ask : Ask) → (m.phases p).reached k ≡ true → step ≡ Step.Asks t k first ask → MayAsk size m t k ask → adds ask cell i ≡ true → ⊥
    sent_none t k first ask reached step_is may added =
        let w = sent_later size m r is step allowed (seen_rows_stand size m is r) p k cell low covers reached t first ask step_is may (adds_alters ask cell i added) in
        apart_bools (goes.accused (m.txns t).phase (phases_are_known size m r t).low i (accused_by ask may added)) (spared.later (m.txns t).phase w.from w.low w.covers w.wrote)
      where
        accused_by : (a : Ask) → MayAsk size m t k a → adds a cell i ≡ true → (phase_of m t).accused i ≡ true
        accused_by (Post u cells accused) h e = (subst (λ st. IsAccusedIn size m.changes st (phase_of m t)) h.turn (accused_are_known size m r t)) i (sym (ap (λ (f : Replicas). f i) h.accused_are) ∙ both_right (has_cell cells cell) (accused i) e)
        accused_by (Settle u cells accused) h e = (subst (λ st. IsAccusedIn size m.changes st (phase_of m t)) h.turn (accused_are_known size m r t)) i (sym (ap (λ (f : Replicas). f i) h.accused_are) ∙ both_right (has_cell cells cell) (accused i) e)
        accused_by other h e = absurd cc

    taken_none : (k : ℕ) → (m.phases p).reached k ≡ true → (st : Step) → step ≡ st → Allowed size m st → (inputs : List Input) → IsTaken m st k inputs → comes inputs cell i ≡ true → ⊥
    taken_none k reached (Step.Asks t j first ask) step_is h inputs taken accuse =
        let may : MayAsk size m t k ask = subst (λ n. MayAsk size m t n ask) (sym taken.0) h.0 in
        let inputs_are : inputs ≡ inputs_of (sender_of m t k) (asks_of first ask) = taken.1 ∙ ap (λ n. inputs_of (sender_of m t n) (asks_of first ask)) (sym taken.0) in
        sent_none t k first ask reached (step_is ∙ ap (λ n. Step.Asks t n first ask) (sym taken.0)) may (sent_comes (sender_of m t k) first ask cell i (sym (ap (λ l. comes l cell i) inputs_are) ∙ accuse))
    taken_none k reached (Step.Controls j steering) step_is h inputs taken accuse = absurd (let no : false ≡ true = sym (ap (λ l. comes l cell i) taken.1) ∙ accuse in cc)
    taken_none k reached (Step.Connects j g) step_is h inputs taken accuse = absurd (let no : false ≡ true = sym (ap (λ l. comes l cell i) taken.1) ∙ accuse in cc)
    taken_none k reached (Step.Cuts j g) step_is h inputs taken accuse = absurd (let no : false ≡ true = sym (ap (λ l. comes l cell i) taken.1) ∙ accuse in cc)
    taken_none k reached other step_is h inputs taken accuse = absurd taken

    -- who accuses it afterwards did before
    accused_before : (k : ℕ) → (m.phases p).reached k ≡ true → accusers_coming new cell i k ≡ true → accusers_coming m cell i k ≡ true
    accused_before k reached h = by_case (move_accuses (IsTaken m step k) (m.bricks k) (new.bricks k) cell i (bricks_move size m step allowed k) h) where
      by_case : (accuses_coming (m.bricks k) cell i ≡ true) ⊎ ((inputs : List Input) × (IsTaken m step k inputs × (comes inputs cell i ≡ true))) → accusers_coming m cell i k ≡ true
      by_case (inl before) = before
      by_case (inr now) = absurd (taken_none k reached step refl allowed now.0 now.1.0 now.1.1)

    step_few : (m.phases p).reached i ≡ true → HasFewAccusers size m (m.phases p) cell i → HasFewAccusers size new (new.phases p) cell i
    step_few there f = record {
      present = move_present (IsTaken m step i) (m.bricks i) (new.bricks i) cell (bricks_move size m step allowed i) f.present;
      itself = by_case (is_or_not (accusers_coming new cell i i));
      few = subst (λ (u : Replicas). count size.replicas (λ k. u k && accusers_coming new cell i k) + (size.replicas - size.quorum) < count size.replicas u) (sym (goes.reached p low))
          (omega (arith, f.few, count_within size.replicas (λ k. (m.phases p).reached k && accusers_coming new cell i k) (λ k. (m.phases p).reached k && accusers_coming m cell i k) within));
    }
      where
        by_case : (accusers_coming new cell i i ≡ true) ⊎ (accusers_coming new cell i i ≡ false) → accusers_coming new cell i i ≡ false
        by_case (inl now) = apart_bools (accused_before i there now) f.itself
        by_case (inr none) = none

        within : (k : ℕ) → k < size.replicas → ((m.phases p).reached k && accusers_coming new cell i k) ≡ true → ((m.phases p).reached k && accusers_coming m cell i k) ≡ true
        within k l h = let reached = both_left ((m.phases p).reached k) (accusers_coming new cell i k) h in both ((m.phases p).reached k) (accusers_coming m cell i k) reached (accused_before k reached (both_right ((m.phases p).reached k) (accusers_coming new cell i k) h))

  -- ---- the phase had ended, or ends now

  module _ (was : SoundWithinReached size m) (one : 1 ≤ p) (now_covers : has_cell (new.phases p).cells cell ≡ true) (sound : IsSoundByCount size (new.phases p) cell i) (spared : IsSpared new p cell i) where
    module _ (low : p ≤ m.ended) where
      covers : has_cell (m.phases p).cells cell ≡ true
      covers = sym (ap (λ cs. has_cell cs cell) (goes.cells p low)) ∙ now_covers

      -- soundness is by whom the phase reached and what it saw, which stay
      old_sound : IsSoundByCount size (m.phases p) cell i
      old_sound = record {
        replica = sound.replica;
        reached = sym (ap (λ (f : ℕ → Bool). f i) (goes.reached p low)) ∙ sound.reached;
        present = sym (ap (λ (f : ℕ → Cell → Row). (f i cell).present) (goes.rows p low)) ∙ sound.present;
        trusts_itself = sym (ap (λ (f : ℕ → Cell → Row). accuses i (Some (f i cell))) (goes.rows p low)) ∙ sound.trusts_itself;
        few = subst (λ (u : Replicas). count size.replicas (λ k. u k && accuses i (Some ((m.phases p).rows k cell))) + (size.replicas - size.quorum) < count size.replicas u) (goes.reached p low)
            (subst (λ (f : ℕ → Cell → Row). count size.replicas (λ k. (new.phases p).reached k && accuses i (Some (f k cell))) + (size.replicas - size.quorum) < count size.replicas (new.phases p).reached) (goes.rows p low) sound.few);
      }

      not_before : (at : ℕ) → at ≤ m.ended → (new.phases at).accused i ≡ false → (m.phases at).accused i ≡ false
      not_before at before none = by_case (is_or_not ((m.phases at).accused i)) where
        by_case : ((m.phases at).accused i ≡ true) ⊎ ((m.phases at).accused i ≡ false) → (m.phases at).accused i ≡ false
        by_case (inl accused) = apart_bools (goes.accused at before i accused) none
        by_case (inr lacks) = lacks

      was_spared : IsSpared m p cell i
      was_spared = record {
        itself = not_before p low spared.itself;
        later = λ at from before over wrote. not_before at before (spared.later at from (omega (arith, before, ended_goes size m step)) (ap (λ cs. has_cell cs cell) (goes.cells at before) ∙ over) (goes.wrote at before wrote));
      }

      old_few : HasFewAccusers size m (m.phases p) cell i
      old_few = was p i cell one low covers ((soundness_is_counted size (m.phases p) cell i).1 old_sound) was_spared

    -- of the phase that ends now, what it saw is what is there
    new_few : IsReached size new → p ≤ new.ended → m.ended < p → (new.phases p).wrote ≡ false → HasFewAccusers size new (new.phases p) cell i
    new_few next low beyond unwritten = seen_few size new is (seen_rows_stand size new is next) p i cell one low now_covers unwritten none sound where
      none : IsSuperseded new.phases new.ended p cell → ⊥
      none s = absurd (omega (arith, s.later, s.low, ended_most size m step allowed, beyond))

    now_few : IsReached size new → p ≤ new.ended → PhaseFrom size m new p → HasFewAccusers size new (new.phases p) cell i
    now_few next low (Old before) = step_few before (covers before) spared (old_sound before).reached (old_few before)
    now_few next low (Now other may at phase_is bricks) = new_few next low (omega (arith, at)) (ap (λ (q : Phase). q.wrote) phase_is)

-- ---- every list of steps

sound_within : (size : Size) (m : State) → IsSize size → IsReached size m → SoundWithinReached size m
sound_within size m is IsReached.Start = λ p i cell one low covers sound spared. absurd (omega (arith, one, low))
sound_within size m is (IsReached.Further old step reached allowed) = λ p i cell one low covers sound spared.
    now_few size old reached is step allowed p i cell (sound_within size old is reached) one covers ((soundness_is_counted size ((after size old step).phases p) cell i).0 sound) spared (IsReached.Further old step reached allowed) low (phase_from size old step allowed p low)

sound_is_free : (size : Size) (m : State) → IsSize size → IsReached size m → SoundIsFree size m
sound_is_free size m is reached p i cell one low covers sound spared =
    let f = sound_within size m is reached p i cell one low covers sound spared in
    let u : Replicas = (m.phases p).reached in
    omega (arith, f.few, is.odd, count_split size.replicas (accusers_coming m cell i) u, count_outside size.replicas u, count_within size.replicas (λ k. not (u k) && accusers_coming m cell i k) (λ k. not (u k)) (λ k low h. both_left (not (u k)) (accusers_coming m cell i k) h))

last_phase_frees : (size : Size) (m : State) → IsSize size → IsReached size m → LastPhaseFrees size m
last_phase_frees size m is reached p i cell l sound none =
    (sound_within size m is reached p i cell l.one l.low l.covers sound spared, sound_is_free size m is reached p i cell l.one l.low l.covers sound spared) where
      spared : IsSpared m p cell i
      spared = record { itself = none; later = later } where
        later : (at : ℕ) → p ≤ at → at ≤ m.ended → has_cell (m.phases at).cells cell ≡ true → (m.phases at).wrote ≡ true → (m.phases at).accused i ≡ false
        later at from low covers wrote = by_case (cases_eq at p) where
          by_case : (at ≡ p) ⊎ (at ≢ p) → (m.phases at).accused i ≡ false
          by_case (inl same) = ap (λ n. (m.phases n).accused i) same ∙ none
          by_case (inr other) = absurd (l.last (record { by = at; later = omega (arith, from, other); low = low; wrote = wrote; covers = covers }))

pub keeps_sound : EverySoundIsFree
keeps_sound size m is reached = record { accused = accused_are_known size m reached; within = sound_within size m is reached; free = sound_is_free size m is reached; last = last_phase_frees size m is reached }
