-- Who accuses a replica for good goes on doing so, until a sink confirms its replacements; and whoever a lock phase that ends now
-- finds sound is accused by no quorum.
use Rattle.std.proofs.Common.{◌≡◌, ◌∙◌, ℕ, ◌≤◌, ◌<◌, true, false, sym, ap, subst, ◌⊎◌, inl, inr, arith, Option, Some, None}
use Rattle.std.specs.Prelude.{List, ◌+◌, ◌||◌, not}
use Rattle.fop_types.specs.declared.cells.Cell.{Cell}
use Rattle.afr_machine.specs.Replicas.{Replicas, Size, IsSize, count}
use Rattle.afr_machine.specs.Touching.{has_cell}
use Rattle.afr_machine.specs.Phases.{Phase, IsSoundIn}
use Rattle.afr_machine.specs.Transactions.{Txn}
use Rattle.afr_machine.specs.Transactions.Stage.{Locked}
use Rattle.afr_machine.specs.States.{State, phase_of}
use Rattle.afr_machine.specs.Sending.{MayClear, is_confirmed_sink}
use Rattle.afr_machine.specs.Turns.{Turn, IsSource, open_grants, phase_reached}
use Rattle.afr_machine.specs.Steps.{Step, Allowed, after, IsReached}
use Rattle.afr_machine.proofs.Tables.{at_same}
use Rattle.afr_laws.specs.Seen.{IsSuperseded}
use Rattle.afr_laws.specs.Sound.{accusers_coming}
use Rattle.afr_laws.proofs.Bools.{apart_bools, is_or_not, both, either_way}
use Rattle.afr_laws.proofs.Counts.{count_within}
use Rattle.afr_soundness.specs.Clears.{IsFree}
use Rattle.afr_soundness.specs.Runs.{KnowsRun}
use Rattle.afr_soundness.proofs.Free.{last_spares, ready_is_free}
use Rattle.afr_soundness.proofs.Runs.{runs_are_known}
use Rattle.afr_contents.specs.Staying.{accusers_staying, SendsPardon}
use Rattle.afr_contents.specs.Naming.{IsOfGroup, CanSource, IsSourceFor, is_copied_to, held_by, MayPardon}
use Rattle.afr_contents.specs.Lasting.{IsLasting, IsAccusedApart}
use Rattle.afr_contents.proofs.Staying.{accusations_stay}
use Rattle.afr_contents.proofs.Found.{staying_coming}
use Rattle.afr_contents.proofs.Naming.{PardonFrom, ConfirmsNow, pardon_from}
use Rattle.afr_contents.proofs.Using.{member_held}

-- whom a quorum goes on accusing is not free
pub accused_not_free : (size : Size) (m : State) (cell : Cell) (i : ℕ) (by : Replicas) → size.quorum ≤ count size.replicas by → ((k : ℕ) → k < size.replicas → by k ≡ true → accusers_staying m cell i k ≡ true) → IsFree size m cell i → ⊥
accused_not_free size m cell i by many stay free =
    let more = count_within size.replicas by (accusers_coming m cell i) (λ k low h. staying_coming m cell i k (stay k low h)) in
    let few = free.few in
    omega (arith, many, more, few)

-- ---- a clear that is sent

module _ (size : Size) (m : State) (r : IsReached size m) (t k i : ℕ) (cells : List Cell) (who : Replicas) (may : MayClear size m t k cells who) (cell : Cell) (has : has_cell cells cell ≡ true) (names : who i ≡ true) where
  known : KnowsRun size (phase_of m t) (m.txns t).job may.run
  known = runs_are_known size m r t may.run may.turn

  of_run : has_cell may.run.cells cell ≡ true
  of_run = sym (ap (λ cs. has_cell cs cell) may.cells_are) ∙ has

  in_group : (group : Option Replicas) → IsSource size (phase_of m t) may.run.cells group i → IsOfGroup size (phase_of m t) cell group i
  in_group None h = h cell of_run
  in_group (Some group) h = h.0

  by_who : (may.run.sources i ≡ true) ⊎ (is_confirmed_sink may.run i ≡ true) → IsSourceFor size m t cell i ⊎ (is_copied_to (m.txns t).stage cell i ≡ true)
  by_who (inl source) = inl (subst (CanSource size m.changes (m.txns t).job (m.txns t).work (phase_of m t) cell i) (sym may.turn) (in_group may.run.group (known.sources_are i source).source))
  by_who (inr sink) = inr (ap (λ s. is_copied_to s cell i) may.turn ∙ both (is_confirmed_sink may.run i) (has_cell may.run.cells cell) sink of_run)

  pub clear_pardons : MayPardon size m t k i cell
  clear_pardons = record {
    held = member_held size m t k may.next.member;
    covers = known.within cell of_run;
    names = by_who (either_way (may.run.sources i) (is_confirmed_sink may.run i) (sym (ap (λ (f : Replicas). f i) may.who_are) ∙ names));
  }

-- ---- one step

module _ (size : Size) (m : State) (r : IsReached size m) (step : Step) (allowed : Allowed size m step) where
  abbrev new : State
  new = after size m step

  pub next_reached : IsReached size (after size m step)
  next_reached = IsReached.Further m step r allowed

  -- ---- a lock phase that ends

  module _ (is_size : IsSize size) (t i : ℕ) (cell : Cell) (step_is : step ≡ Step.Turns t Turn.Reaches) (covers : has_cell (phase_of new t).cells cell ≡ true) (sound : IsSoundIn size (phase_of new t) cell i) where
    ended_now : new.ended ≡ m.ended + 1
    ended_now = ap (λ st. (after size m st).ended) step_is

    txn_now : new.txns t ≡ record (m.txns t) { stage = Locked; phase = m.ended + 1; out = λ k. (m.txns t).out k || not (open_grants m t k) }
    txn_now = ap (λ st. (after size m st).txns t) step_is ∙ at_same m.txns t (record (m.txns t) { stage = Locked; phase = m.ended + 1; out = λ k. (m.txns t).out k || not (open_grants m t k) })

    phase_now : (new.txns t).phase ≡ m.ended + 1
    phase_now = ap (λ (x : Txn). x.phase) txn_now

    nobody : (phase_of new t).accused i ≡ false
    nobody =
        ap (λ p. (new.phases p).accused i) phase_now
        ∙ ap (λ st. ((after size m st).phases (m.ended + 1)).accused i) step_is ∙ ap (λ (x : Phase). x.accused i) (at_same m.phases (m.ended + 1) (phase_reached m t))

    not_superseded : IsSuperseded new.phases new.ended (new.txns t).phase cell → ⊥
    not_superseded s = let a = s.later in let b = s.low in absurd (omega (arith, a, b, phase_now, ended_now))

    pub ends_free : IsFree size new cell i
    ends_free =
        ready_is_free size (after size m step) is_size next_reached (new.txns t).phase cell (omega (arith, phase_now)) (omega (arith, phase_now, ended_now)) covers i (inl sound)
        (last_spares (after size m step) (new.txns t).phase i cell not_superseded nobody)

  -- ---- accusers

  module _ (i : ℕ) (cell : Cell) where
    unsent : (k : ℕ) → IsLasting size m cell i k → SendsPardon step k cell i → ⊥
    unsent k l s = l.lasts s.txn (clear_pardons size m r s.txn k i s.cells s.who (subst (Allowed size m) s.is allowed).0 cell s.covers s.names)

    pub lasting_stays : (k : ℕ) → IsLasting size m cell i k → accusers_staying new cell i k ≡ true
    lasting_stays k l = accusations_stay size m step allowed k i cell l.stays (unsent k l)

    module _ (is_size : IsSize size) (few : i < size.replicas) (these those : Replicas) (smaller : (k : ℕ) → those k ≡ true → these k ≡ true) (a : IsAccusedApart size m cell i these) where
      stay : (k : ℕ) → k < size.replicas → a.by k ≡ true → accusers_staying new cell i k ≡ true
      stay k low h = lasting_stays k (a.each k low h)

      -- where no sink confirms that one of them may pardon
      pub accused_goes : ((t k : ℕ) → k < size.replicas → a.by k ≡ true → held_by new t k ≡ true → ConfirmsNow size m r step allowed t i cell → ⊥) → IsAccusedApart size new cell i those
      accused_goes none = record {
        by = a.by;
        many = a.many;
        each = λ k low h. record { stays = stay k low h; lasts = λ t p. lasts k low h t p (pardon_from size m r step allowed t k i cell few p) };
        apart = λ k low h. apart_from k (is_or_not (those k)) (a.apart k low h);
      } where
        lasts : (k : ℕ) → k < size.replicas → a.by k ≡ true → (t : ℕ) → MayPardon size new t k i cell → PardonFrom size m r step allowed t k i cell → ⊥
        lasts k low h t p (PardonFrom.Was was) = (a.each k low h).lasts t was
        lasts k low h t p (PardonFrom.Ends step_is sound) = accused_not_free size (after size m step) cell i a.by a.many stay (ends_free is_size t i cell step_is p.covers sound)
        lasts k low h t p (PardonFrom.Confirms c) = none t k low h p.held c

        apart_from : (k : ℕ) → (those k ≡ true) ⊎ (those k ≡ false) → these k ≡ false → those k ≡ false
        apart_from k (inl there) none_there = apart_bools (smaller k there) none_there
        apart_from k (inr other) none_there = other
