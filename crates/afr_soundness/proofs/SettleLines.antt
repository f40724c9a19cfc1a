-- While an unsettled change is settled, later lock phases over its cells saw it, and no clear over one of its cells comes to a
-- brick that the settling's lock phase reached, over every list of steps.
use Rattle.std.proofs.Common.{◌≡◌, ◌∙◌, ℕ, ◌+◌, ◌≤◌, ◌<◌, Bool, true, false, refl, sym, ap, subst, ◌⊎◌, inl, inr, arith}
use Rattle.std.specs.Prelude.{List, ◌≢◌}
use Rattle.std.proofs.lemmas.Bool.{cases_eq, cases_lt}
use Rattle.fop_types.specs.declared.cells.Cell.{Cell}
use Rattle.afr_machine.specs.Replicas.{Size, Replicas}
use Rattle.afr_machine.specs.Touching.{has_cell}
use Rattle.afr_machine.specs.Requests.{Sender, Ask, Input}
use Rattle.afr_machine.specs.Requests.Ask.{Clear}
use Rattle.afr_machine.specs.Bricks.{Brick}
use Rattle.afr_machine.specs.Changes.{is_unsettled}
use Rattle.afr_machine.specs.Phases.{Phase}
use Rattle.afr_machine.specs.Transactions.{CopyRun, Txn}
use Rattle.afr_machine.specs.Transactions.Work.{Own, Settles}
use Rattle.afr_machine.specs.Transactions.Stage.{Copying}
use Rattle.afr_machine.specs.States.{State, phase_of}
use Rattle.afr_machine.specs.Births.{cells_of_work}
use Rattle.afr_machine.specs.Sending.{MayAsk, asks_of, inputs_of, sender_of}
use Rattle.afr_machine.specs.Turns.{Turn, MayReach, open_grants, phase_reached}
use Rattle.afr_machine.specs.Steps.{Step, Allowed, after, IsReached}
use Rattle.afr_machine.specs.Moves.{IsTaken}
use Rattle.afr_machine.proofs.BrickMoves.{bricks_move}
use Rattle.afr_machine.proofs.Tables.{at_same}
use Rattle.afr_laws.specs.Senders.{EachInput}
use Rattle.afr_laws.specs.Grants.{lock_of, is_unlocking}
use Rattle.afr_laws.specs.Apart.{Holds, IsGranted}
use Rattle.afr_laws.specs.Apart.IsGranted.{HandedIn}
use Rattle.afr_laws.specs.Alone.{IsApartFrom}
use Rattle.afr_laws.specs.Covered.{alters}
use Rattle.afr_laws.specs.OwnChanges.{was_unsettled}
use Rattle.afr_laws.specs.Fresh.{is_behind}
use Rattle.afr_laws.specs.Standing.{is_gathering}
use Rattle.afr_laws.specs.Work.{changes_in}
use Rattle.afr_laws.proofs.Bools.{apart_bools, is_or_not}
use Rattle.afr_laws.proofs.Flying.{on_their_way}
use Rattle.afr_laws.proofs.ConnectsFirst.{connects_come_first}
use Rattle.afr_laws.proofs.Covered.Granted.{grants_stand}
use Rattle.afr_laws.proofs.Copies.Asks.{share_at}
use Rattle.afr_laws.proofs.Work.Known.{works_are_known}
use Rattle.afr_laws.proofs.OwnPhases.{keeps_phases}
use Rattle.afr_laws.proofs.Fresh.Known.{phases_are_known}
use Rattle.afr_laws.proofs.Fresh.Phased.{PhasesGo}
use Rattle.afr_laws.proofs.Fresh.Steps.{step_phases}
use Rattle.afr_laws.proofs.Fresh.Turns.{copied_behind, copies_behind}
use Rattle.afr_laws.proofs.Overtaken.Steps.{phase_from, ended_most, HasOpen, has_open, opens, overtaken_apart}
use Rattle.afr_laws.proofs.Standing.Alone.{granted_alone, move_each}
use Rattle.afr_laws.proofs.Standing.Calm.{gathering_is_calm}
use Rattle.afr_laws.proofs.Standing.Own.{handed_calm}
use Rattle.afr_soundness.specs.SettleDone.{LaterSeeIt, ClearsNot, NoneClears}
use Rattle.afr_soundness.proofs.States.{phase_stays, work_stays}
use Rattle.afr_soundness.proofs.TxnMoves.{TxnMove, txn_moves}
use Rattle.afr_soundness.proofs.ChangeMoves.{cells_stay}
use Rattle.afr_soundness.proofs.Deciding.Kept.{keeps_behind}
use Rattle.afr_soundness.proofs.Deciding.Whose.{decides_exactly}
use Rattle.afr_soundness.proofs.Unsettled.{UnsettledFrom, unsettled_from, drawn_from, becomes_own, settled_was}
use Rattle.afr_soundness.proofs.Runs.{runs_are_known}
use Rattle.afr_soundness.proofs.Settled.{settled_are_decided}
use Rattle.afr_soundness.proofs.Copied.Lines.{each_both}
use Rattle.afr_soundness.proofs.CopyApart.Static.{comes_before}
use Rattle.afr_soundness.proofs.CopyApart.Steps.{comes_back}

-- of one settling
pub record SettlesQuietly (m : State) : Type 0 where
  pub later : LaterSeeIt m
  pub clears : NoneClears m

module _ (size : Size) (m : State) (r : IsReached size m) (was : SettlesQuietly m) (step : Step) (allowed : Allowed size m step) where
  abbrev new : State
  new = after size m step

  goes : PhasesGo m.ended m.phases (after size m step).phases
  goes = step_phases size m step

  -- ---- a transaction that settles an unsettled change: it did, or its lock phase ends now

  pub data SettlesFrom (t u : ℕ) : Type 0 where
    Did : is_behind (m.txns t).stage ≡ true → (new.txns t).phase ≡ (m.txns t).phase → SettlesFrom t u
    Ends : step ≡ Step.Turns t Turn.Reaches → MayReach size m t → (new.txns t).phase ≡ m.ended + 1 → SettlesFrom t u

  module _ (t u : ℕ) (behind : is_behind (new.txns t).stage ≡ true) (work : (new.txns t).work ≡ Settles u) where
    work_then : (m.txns t).work ≡ Settles u
    work_then = sym (work_stays size m r step allowed t behind) ∙ work

    unsettled_then : UnsettledFrom size m r step allowed u → is_unsettled (m.changes u).verdict ≡ true
    unsettled_then (UnsettledFrom.Was h) = h
    unsettled_then (UnsettledFrom.Becomes s step_is h at) = apart_bools (settled_was size m r t u work_then) (ap (λ n. was_unsettled (m.changes n).verdict) at ∙ ap was_unsettled (becomes_own size m r step allowed s h).1.1)

    did : is_behind (m.txns t).stage ≡ true → SettlesFrom t u
    did h = Did h (phase_stays size m r step allowed t h)

    not_behind : (y : Txn) → new.txns t ≡ y → is_behind y.stage ≡ false → SettlesFrom t u
    not_behind y is free = apart_bools behind (ap (λ (z : Txn). is_behind z.stage) is ∙ free)

    settles_from : TxnMove size m step t (new.txns t) → SettlesFrom t u
    settles_from (TxnMove.Goes quiet g) = did (sym (keeps_behind (m.txns t).stage (new.txns t).stage g.stage) ∙ behind)
    settles_from (TxnMove.Begins graph own step_is at is) = not_behind _ is refl
    settles_from (TxnMove.Locks Own step_is h is) = not_behind _ is refl
    settles_from (TxnMove.Locks (Settles v) step_is h is) = not_behind _ is refl
    settles_from (TxnMove.Reaches step_is h is) = Ends step_is h (ap (λ (z : Txn). z.phase) is)
    settles_from (TxnMove.Marks step_is h is) = did (copied_behind (m.txns t).stage h.copied)
    settles_from (TxnMove.Unsettles step_is h is) = did (ap is_behind h.turn)
    settles_from (TxnMove.Posts step_is h is) = did (ap is_behind h.turn)
    settles_from (TxnMove.SettlesAs group adopts step_is h is) = did (ap is_behind h.turn)
    settles_from (TxnMove.Bears step_is h is) = did (ap is_behind h.turn)
    settles_from (TxnMove.Copies run step_is h is) = did (copies_behind m t (m.txns t).work run.group h.allowed)
    settles_from (TxnMove.Clears step_is h is) = did (ap is_behind h.turn)
    settles_from (TxnMove.Polls step_is h is) = not_behind _ is refl
    settles_from (TxnMove.Unlocks step_is h is) = not_behind _ is refl
    settles_from (TxnMove.Rests step_is h is) = not_behind _ is refl
    settles_from (TxnMove.Ends step_is h is) = not_behind _ is refl

  -- ---- later lock phases

  later_after : LaterSeeIt new
  later_after t u p behind work unsettled after_it low shared comes = by_from (settles_from t u behind work (txn_moves size m step allowed t)) where
    before : is_unsettled (m.changes u).verdict ≡ true
    before = unsettled_then t u behind work (unsettled_from size m r step allowed u unsettled)

    by_from : SettlesFrom t u → ⊥
    by_from (Ends step_is h phase) = absurd (omega (arith, phase, after_it, low, ended_most size m step allowed))
    by_from (Did h phase) =
        let c = comes_back size m r step allowed u p before shared comes (phase_from size m step allowed p low) in
        was.later t u p h (work_then t u behind work) before (omega (arith, after_it, phase)) c.low c.common c.comes

  -- ---- clears on their way

  module _ (t u k : ℕ) (cell : Cell) (settling : (m.txns t).work ≡ Settles u) (unsettled : is_unsettled (m.changes u).verdict ≡ true) (has : has_cell (m.changes u).cells cell ≡ true) where
    -- a clear that is sent now is of a copy whose lock phase ended before that of the settling, or after it
    module _ (behind : is_behind (m.txns t).stage ≡ true) (reached : (phase_of m t).reached k ≡ true) where
      covers : has_cell (phase_of m t).cells cell ≡ true
      covers = ap (λ cs. has_cell cs cell) ((phases_are_known size m r t).cells behind ∙ ap (cells_of_work m.changes (m.txns t)) settling) ∙ has

      unsent : (s : ℕ) (run : CopyRun) → (m.txns s).stage ≡ Copying run → has_cell run.cells cell ≡ true → open_grants m s k ≡ true → ⊥
      unsent s run copies of_run granted = by_order (cases_lt (m.txns s).phase (m.txns t).phase) (cases_eq (m.txns s).phase (m.txns t).phase) where
        of_phase : has_cell (phase_of m s).cells cell ≡ true
        of_phase = (runs_are_known size m r s run copies).within cell of_run

        earlier : (m.txns s).phase < (m.txns t).phase → ⊥
        earlier less =
            apart_bools granted
            (overtaken_apart size m r s (m.txns t).phase k (ap is_behind copies) ((works_are_known size m r s).exclusive (ap changes_in copies))
            (record { later = less; ended = (phases_are_known size m r t).low; common = share_at (phase_of m s).cells (phase_of m t).cells cell of_phase covers }) reached)

        same_txn : (m.txns s).phase ≡ (m.txns t).phase → ⊥
        same_txn same =
            let one : 1 ≤ (m.txns s).phase = ((decides_exactly size m r).transactions s).one (ap is_behind copies) in
            let who : s ≡ t = (keeps_phases size m r).apart s t one same in
            apart_bools unsettled (settled_are_decided size m r s u run copies (ap (λ i. (m.txns i).work) who ∙ settling))

        by_order : ((m.txns s).phase < (m.txns t).phase) ⊎ ((m.txns t).phase ≤ (m.txns s).phase) → ((m.txns s).phase ≡ (m.txns t).phase) ⊎ ((m.txns s).phase ≢ (m.txns t).phase) → ⊥
        by_order (inl less) other = earlier less
        by_order (inr least) (inl same) = same_txn same
        by_order (inr least) (inr other) =
            was.later t u (m.txns s).phase behind settling unsettled (omega (arith, least, other)) (phases_are_known size m r s).low (share_at (phase_of m s).cells (m.changes u).cells cell of_phase has)
            (comes_before size m r s u run copies cell of_run unsettled has)

      sent_not : (s : ℕ) (ask : Ask) → MayAsk size m s k ask → ClearsNot cell ask
      sent_not s (Clear cells who) may = by_case (is_or_not (has_cell cells cell)) where
        by_case : (has_cell cells cell ≡ true) ⊎ (has_cell cells cell ≡ false) → has_cell cells cell ≡ false
        by_case (inr none) = none
        by_case (inl there) = absurd (unsent s may.run may.turn (sym (ap (λ cs. has_cell cs cell) may.cells_are) ∙ there) (opens m s k (record { grant = may.next.member.grant.grant; granted = may.next.member.grant.granted; current = may.next.member.grant.still_open })))
      sent_not s other may = tt

      sent_line : (s : ℕ) (first : Bool) (ask : Ask) → MayAsk size m s k ask → EachInput (λ by a. ClearsNot cell a) (inputs_of (sender_of m s k) (asks_of first ask))
      sent_line s true ask may = (tt, (sent_not s ask may, tt))
      sent_line s false ask may = (sent_not s ask may, tt)

      taken_line : (st : Step) → Allowed size m st → (inputs : List Input) → IsTaken m st k inputs → EachInput (λ by a. ClearsNot cell a) inputs
      taken_line (Step.Asks s j first ask) h inputs taken =
          subst (EachInput (λ by a. ClearsNot cell a)) (sym (taken.1 ∙ ap (λ n. inputs_of (sender_of m s n) (asks_of first ask)) (sym taken.0))) (sent_line s first ask (subst (λ n. MayAsk size m s n ask) (sym taken.0) h.0))
      taken_line (Step.Controls j steering) h inputs taken = subst (EachInput (λ by a. ClearsNot cell a)) (sym taken.1) tt
      taken_line (Step.Connects j g) h inputs taken = subst (EachInput (λ by a. ClearsNot cell a)) (sym taken.1) tt
      taken_line (Step.Cuts j g) h inputs taken = subst (EachInput (λ by a. ClearsNot cell a)) (sym taken.1) tt
      taken_line other h inputs taken = absurd taken

      line_stays : EachInput (λ by a. ClearsNot cell a) (new.bricks k).line
      line_stays = move_each (IsTaken m step k) (m.bricks k) (new.bricks k) (λ by a. ClearsNot cell a) (taken_line step allowed) (was.clears t u k cell behind settling unsettled reached has) (bricks_move size m step allowed k)

    -- the lock phase ends now: whatever alters one of its cells is of another transaction that conflicts, or of its own
    module _ (step_is : step ≡ Step.Turns t Turn.Reaches) (h : MayReach size m t) (reached : (new.phases (m.ended + 1)).reached k ≡ true) where
      o : HasOpen m t k
      o = has_open m t k (sym (ap (λ (x : Phase). x.reached k) (ap (λ st. (after size m st).phases (m.ended + 1)) step_is ∙ at_same m.phases (m.ended + 1) (phase_reached m t))) ∙ reached)

      holds : Holds m t k o.grant
      holds = record { granted = o.granted; still_open = o.current; holding = ap is_unlocking h.turn }

      granted : IsGranted m k (lock_of t (m.txns t).graph o.grant)
      granted = HandedIn t o.grant holds refl

      over : o.grant.cells ≡ (m.changes u).cells
      over = ((works_are_known size m r t).grants k o.grant o.granted).over ∙ ap (cells_of_work m.changes (m.txns t)) settling

      clears_not : (by : Sender) (ask : Ask) → IsApartFrom (lock_of t (m.txns t).graph o.grant) by ask → (by.txn ≡ t → alters ask ≡ false) → ClearsNot cell ask
      clears_not by (Clear cells who) apart own = by_case (is_or_not (has_cell cells cell)) (cases_eq by.txn t) where
        by_case : (has_cell cells cell ≡ true) ⊎ (has_cell cells cell ≡ false) → (by.txn ≡ t) ⊎ (by.txn ≢ t) → has_cell cells cell ≡ false
        by_case (inr none) who_is = none
        by_case (inl there) (inl same) = absurd (let e : true ≡ false = own same in cc)
        by_case (inl there) (inr other) = apart_bools (share_at o.grant.cells cells cell (ap (λ cs. has_cell cs cell) over ∙ has) there) (apart refl other)
      clears_not by other apart own = tt

      line_ends : EachInput (λ by a. ClearsNot cell a) (new.bricks k).line
      line_ends = subst (λ (b : ℕ → Brick). EachInput (λ by a. ClearsNot cell a) (b k).line) (sym (ap (λ st. (after size m st).bricks) step_is))
          (each_both (IsApartFrom (lock_of t (m.txns t).graph o.grant)) (λ by ask. by.txn ≡ t → alters ask ≡ false) (λ by a. ClearsNot cell a) clears_not (m.bricks k).line
          (granted_alone size m r k (lock_of t (m.txns t).graph o.grant) granted)
          (handed_calm m (on_their_way size m r) (connects_come_first size m r) (grants_stand size m r) k (lock_of t (m.txns t).graph o.grant) (gathering_is_calm size m r) t o.grant holds granted refl refl refl (ap is_gathering h.turn)))

  clears_after : NoneClears new
  clears_after t u k cell behind work unsettled reached has = by_from (settles_from t u behind work (txn_moves size m step allowed t)) where
    before : is_unsettled (m.changes u).verdict ≡ true
    before = unsettled_then t u behind work (unsettled_from size m r step allowed u unsettled)

    had : has_cell (m.changes u).cells cell ≡ true
    had = sym (ap (λ cs. has_cell cs cell) (cells_stay size m step allowed u (drawn_from size m r step allowed u (UnsettledFrom.Was before)))) ∙ has

    by_from : SettlesFrom t u → EachInput (λ by ask. ClearsNot cell ask) (new.bricks k).line
    by_from (Did h phase) =
        line_stays t u k cell (work_then t u behind work) before had h
        (sym (ap (λ (f : Replicas). f k) (goes.reached (m.txns t).phase (phases_are_known size m r t).low)) ∙ sym (ap (λ p. (new.phases p).reached k) phase) ∙ reached)
    by_from (Ends step_is h phase) = line_ends t u k cell (work_then t u behind work) before had step_is h (sym (ap (λ p. (new.phases p).reached k) phase) ∙ reached)

pub settles_quietly : (size : Size) (m : State) → IsReached size m → SettlesQuietly m
settles_quietly size m IsReached.Start = record { later = λ t u p behind. absurd (let e : false ≡ true = behind in cc); clears = λ t u k cell behind. absurd (let e : false ≡ true = behind in cc) }
settles_quietly size m (IsReached.Further old step reached allowed) = record {
  later = later_after size old reached (settles_quietly size old reached) step allowed;
  clears = clears_after size old reached (settles_quietly size old reached) step allowed;
}
