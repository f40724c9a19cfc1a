-- Later lock phases accuse nobody on the cells of an unsettled change, over every list of steps.
use Rattle.std.proofs.Common.{◌≡◌, ◌∙◌, ℕ, ◌≤◌, ◌<◌, Bool, true, false, refl, sym, ap, subst, inl, inr, arith, Option, Some, None}
use Rattle.std.specs.Prelude.{List}
use Rattle.fop_types.specs.declared.cells.Cell.{Cell}
use Rattle.afr_machine.specs.Replicas.{Size, Replicas}
use Rattle.afr_machine.specs.Touching.{share}
use Rattle.afr_machine.specs.Changes.Verdict.{Drawn}
use Rattle.afr_machine.specs.Phases.{Phase, Deciding}
use Rattle.afr_machine.specs.Phases.Deciding.{NoChange, ByPosts, BySettles}
use Rattle.afr_machine.specs.Transactions.{Work, Txn, cells_of_job, settles_first}
use Rattle.afr_machine.specs.Transactions.Work.{Own, Settles}
use Rattle.afr_machine.specs.States.{State}
use Rattle.afr_machine.specs.Turns.{Turn, MaySettleNow, MayCopyAs, IsCopied}
use Rattle.afr_machine.specs.Steps.{Step, Allowed, after, IsReached}
use Rattle.afr_laws.specs.OwnChanges.{was_unsettled, OwnsChange}
use Rattle.afr_laws.specs.Fresh.{is_behind, IsWorkOf}
use Rattle.afr_laws.proofs.Bools.{apart_bools}
use Rattle.afr_laws.proofs.OwnChanges.Steps.{changes_are_own}
use Rattle.afr_laws.proofs.Fresh.Phased.{PhasesGo}
use Rattle.afr_laws.proofs.Fresh.Known.{phases_are_known}
use Rattle.afr_laws.proofs.Fresh.Steps.{step_phases}
use Rattle.afr_laws.proofs.Fresh.Turns.{copied_behind, copies_behind}
use Rattle.afr_laws.proofs.Overtaken.Steps.{PhaseFrom, phase_from}
use Rattle.afr_laws.proofs.Overtaken.Steps.PhaseFrom.{Old, Now}
use Rattle.afr_soundness.specs.Deciding.{IsMarkedIn, IsSettledIn, IsDecidedIn, DecidesExactly}
use Rattle.afr_soundness.specs.Later.{IsOf, IsQuietFor, IsLaterOver, is_before, LaterAreQuiet}
use Rattle.afr_soundness.proofs.TxnMoves.{TxnMove, txn_moves}
use Rattle.afr_soundness.proofs.PhaseMoves.{PhaseMove, phase_moves}
use Rattle.afr_soundness.proofs.ChangeMoves.{cells_stay}
use Rattle.afr_soundness.proofs.Deciding.Kept.{keeps_behind}
use Rattle.afr_soundness.proofs.Deciding.Whose.{decides_exactly}
use Rattle.afr_soundness.proofs.Unsettled.{UnsettledFrom, unsettled_from, becomes_own, drawn_from, settled_was}
use Rattle.afr_soundness.proofs.Unsettled.UnsettledFrom.{Was, Becomes}
use Rattle.afr_soundness.proofs.Later.Quiet.{keeps_before, copied_before, quiet_for, quiet_from, quiet_own}

module _ (size : Size) (m : State) (r : IsReached size m) (step : Step) (allowed : Allowed size m step) where
  abbrev new : State
  new = after size m step

  goes : PhasesGo m.ended m.phases (after size m step).phases
  goes = step_phases size m step

  d : DecidesExactly size m
  d = decides_exactly size m r

  -- ---- what was before

  old_later : (u p at : ℕ) → u ≤ m.drawn → at ≤ m.ended → IsLaterOver new (new.changes u).cells p at → IsLaterOver m (m.changes u).cells p at
  old_later u p at drawn low l = record {
    later = l.later;
    ended = low;
    common = sym (ap (λ cs. share cs (new.changes u).cells) (goes.cells at low) ∙ ap (share (m.phases at).cells) (cells_stay size m step allowed u drawn)) ∙ l.common;
  }

  one_at : (p at : ℕ) → p < at → 1 ≤ at
  one_at p at l = omega (arith, l)

  module _ (was : LaterAreQuiet m) where
    -- ---- a transaction that is to settle

    settling_old : (t at u : ℕ) → at ≤ m.ended → is_behind (m.txns t).stage ≡ true → (m.txns t).work ≡ Settles u → UnsettledFrom size m r step allowed u → IsLaterOver new (new.changes u).cells (m.txns t).phase at → IsQuietFor new.changes u (new.phases at).decides
    settling_old t at u low behind work (Was unsettled) l =
        let o = old_later u (m.txns t).phase at (drawn_from size m r step allowed u (Was unsettled)) low l in
        quiet_for size m r step allowed at u (one_at (m.txns t).phase at l.later) low unsettled o.common (was.settling t at u behind work unsettled o)
    settling_old t at u low behind work (Becomes s step_is h same) l =
        apart_bools (settled_was size m r t u work) (ap (λ n. was_unsettled (m.changes n).verdict) same ∙ ap was_unsettled (becomes_own size m r step allowed s h).1.1)

    settling_after : (t at u : ℕ) → is_behind (new.txns t).stage ≡ true → (new.txns t).work ≡ Settles u → UnsettledFrom size m r step allowed u → IsLaterOver new (new.changes u).cells (new.txns t).phase at → PhaseFrom size m new at → IsQuietFor new.changes u (new.phases at).decides
    settling_after t at u behind work from l (Now s may now is bricks) = subst (IsQuietFor new.changes u) (sym (ap (λ (q : Phase). q.decides) is)) tt
    settling_after t at u behind work from l (Old low) = by_move (txn_moves size m step allowed t) where
      of_old : (y : Txn) → new.txns t ≡ y → is_behind (m.txns t).stage ≡ true → y.work ≡ (m.txns t).work → y.phase ≡ (m.txns t).phase → IsQuietFor new.changes u (new.phases at).decides
      of_old y is was_behind w p =
          settling_old t at u low was_behind (sym (ap (λ (z : Txn). z.work) is ∙ w) ∙ work) from (subst (λ q. IsLaterOver new (new.changes u).cells q at) (ap (λ (z : Txn). z.phase) is ∙ p) l)

      none : (y : Txn) → new.txns t ≡ y → is_behind y.stage ≡ false → IsQuietFor new.changes u (new.phases at).decides
      none y is free = apart_bools behind (ap (λ (z : Txn). is_behind z.stage) is ∙ free)

      by_move : TxnMove size m step t (new.txns t) → IsQuietFor new.changes u (new.phases at).decides
      by_move (TxnMove.Goes quiet g) = of_old (new.txns t) refl (sym (keeps_behind (m.txns t).stage (new.txns t).stage g.stage) ∙ behind) g.task.work g.task.phase
      by_move (TxnMove.Begins graph own step_is b is) = none _ is refl
      by_move (TxnMove.Locks Own step_is h is) = none _ is refl
      by_move (TxnMove.Locks (Settles v) step_is h is) = none _ is refl
      by_move (TxnMove.Reaches step_is h is) = absurd (omega (arith, low, l.later, ap (λ (z : Txn). z.phase) is))
      by_move (TxnMove.Marks step_is h is) = of_old _ is (copied_behind (m.txns t).stage h.copied) refl refl
      by_move (TxnMove.Unsettles step_is h is) = of_old _ is (ap is_behind h.turn) refl refl
      by_move (TxnMove.Posts step_is h is) = of_old _ is (ap is_behind h.turn) refl refl
      by_move (TxnMove.SettlesAs group adopts step_is h is) = of_old _ is (ap is_behind h.turn) refl refl
      by_move (TxnMove.Bears step_is h is) = of_old _ is (ap is_behind h.turn) refl refl
      by_move (TxnMove.Copies run step_is h is) = of_old _ is (copies_behind m t (m.txns t).work run.group h.allowed) refl refl
      by_move (TxnMove.Clears step_is h is) = of_old _ is (ap is_behind h.turn) refl refl
      by_move (TxnMove.Polls step_is h is) = none _ is refl
      by_move (TxnMove.Unlocks step_is h is) = none _ is refl
      by_move (TxnMove.Rests step_is h is) = none _ is refl
      by_move (TxnMove.Ends step_is h is) = none _ is refl

    -- ---- a lock phase that decides

    deciding_old : (p at u : ℕ) → 1 ≤ p → p ≤ m.ended → at ≤ m.ended → (decides : Deciding) → (m.phases p).decides ≡ decides → IsOf u decides → UnsettledFrom size m r step allowed u → IsLaterOver new (new.changes u).cells p at → IsQuietFor new.changes u (new.phases at).decides
    deciding_old p at u one low_p low decides is of (Was unsettled) l =
        let o = old_later u p at (drawn_from size m r step allowed u (Was unsettled)) low l in
        quiet_for size m r step allowed at u (one_at p at l.later) low unsettled o.common (was.deciding p at u one (subst (IsOf u) (sym is) of) unsettled o)
    deciding_old p at u one low_p low NoChange is of (Becomes t step_is h same) l = absurd of
    deciding_old p at u one low_p low (BySettles v group adopts) is of (Becomes t step_is h same) l =
        let k : IsSettledIn m p v = subst (IsDecidedIn m p) is (d.decided p one low_p) in
        apart_bools k.sent (ap (λ n. was_unsettled (m.changes n).verdict) (of ∙ same) ∙ ap was_unsettled (becomes_own size m r step allowed t h).1.1)
    deciding_old p at u one low_p low (ByPosts v) is of (Becomes t step_is h same) l =
        subst (λ n. IsQuietFor new.changes n (new.phases at).decides) (sym same)
        (quiet_from size m r step allowed at t (one_at p at l.later) low step_is h (subst (λ n. IsQuietFor m.changes n (m.phases at).decides) own.0 (was.own t at (ap is_before h.turn) work owns.first over))) where
          own : ((m.txns t).own ≡ h.change) × ((1 ≤ h.change) × ((m.changes h.change).verdict ≡ Drawn))
          own = becomes_own size m r step allowed t h

          owns : OwnsChange m.changes m.drawn t (m.txns t)
          owns = ((changes_are_own size m r).own t).owns (subst (λ n. 1 ≤ n) (sym own.0) own.1.0)

          work : (m.txns t).work ≡ Own
          work = subst (λ s. IsWorkOf s (m.txns t).work) h.turn (phases_are_known size m r t).work

          marked : IsMarkedIn m p v
          marked = subst (IsDecidedIn m p) is (d.decided p one low_p)

          mine : (m.phases p).by ≡ t
          mine = sym marked.by ∙ ap (λ n. (m.changes n).by) (of ∙ same ∙ sym own.0) ∙ owns.by

          phase : (m.txns t).phase ≡ p
          phase = ap (λ i. (m.txns i).phase) (sym mine) ∙ marked.phase

          o : IsLaterOver m (m.changes u).cells p at
          o = old_later u p at (drawn_from size m r step allowed u (Becomes t step_is h same)) low l

          over : IsLaterOver m (cells_of_job (m.txns t).job) (m.txns t).phase at
          over = record { later = omega (arith, o.later, phase); ended = low; common = ap (share (m.phases at).cells) (owns.cells ∙ ap (λ n. (m.changes n).cells) (own.0 ∙ sym same)) ∙ o.common }

    deciding_after : (p at u : ℕ) → 1 ≤ p → IsOf u (new.phases p).decides → UnsettledFrom size m r step allowed u → IsLaterOver new (new.changes u).cells p at → PhaseFrom size m new at → IsQuietFor new.changes u (new.phases at).decides
    deciding_after p at u one of from l (Now s may now is bricks) = subst (IsQuietFor new.changes u) (sym (ap (λ (q : Phase). q.decides) is)) tt
    deciding_after p at u one of from l (Old low) = by_move (phase_moves size m step allowed p) where
      low_p : p ≤ m.ended
      low_p = omega (arith, l.later, low)

      same : (new.phases p).decides ≡ (m.phases p).decides → IsQuietFor new.changes u (new.phases at).decides
      same is = deciding_old p at u one low_p low (m.phases p).decides refl (subst (IsOf u) is of) from l

      settles_now : (t : ℕ) (group : Replicas) (adopts : Bool) → step ≡ Step.Turns t (Turn.SettlesAs group adopts) → (h : MaySettleNow size m t group adopts) → p ≡ (m.txns t).phase → h.change ≡ u → UnsettledFrom size m r step allowed u → IsQuietFor new.changes u (new.phases at).decides
      settles_now t group adopts step_is h now is (Was unsettled) =
          settling_old t at u low (ap is_behind h.turn) (h.work_is ∙ ap Settles is) (Was unsettled) (subst (λ q. IsLaterOver new (new.changes u).cells q at) now l)
      settles_now t group adopts step_is h now is (Becomes s other k e) = absurd (let no : Step.Turns t (Turn.SettlesAs group adopts) ≡ Step.Unsettles s = sym step_is ∙ other in cc)

      by_move : PhaseMove size m step p (new.phases p) → IsQuietFor new.changes u (new.phases at).decides
      by_move (PhaseMove.Same is) = same (ap (λ (q : Phase). q.decides) is)
      by_move (PhaseMove.Reaches t step_is may now is) = absurd (omega (arith, now, low_p))
      by_move (PhaseMove.Marks t step_is may now is) = absurd (omega (arith, drawn_from size m r step allowed u from, subst (IsOf u) (ap (λ (q : Phase). q.decides) is) of))
      by_move (PhaseMove.Posts t step_is may now is) = same (ap (λ (q : Phase). q.decides) is)
      by_move (PhaseMove.SettlesAs t group adopts step_is h now is) = settles_now t group adopts step_is h now (subst (IsOf u) (ap (λ (q : Phase). q.decides) is) of) from
      by_move (PhaseMove.Asks t k first ask step_is may w now is) = same (ap (λ (q : Phase). q.decides) is)
      by_move (PhaseMove.Clears k by cells who answer run step_is handed stage now is) = same (ap (λ (q : Phase). q.decides) is)
      by_move (PhaseMove.Confirms k by ask answer step_is handed now is) = same (ap (λ (q : Phase). q.decides) is)

    -- ---- a transaction that is to make its own change

    -- number 0 is no change's
    renumbered : (at u : ℕ) (cells : List Cell) → 1 ≤ at → at ≤ new.ended → share (new.phases at).cells cells ≡ true → (decides : Deciding) → (new.phases at).decides ≡ decides → IsQuietFor new.changes 0 decides → IsQuietFor new.changes u decides
    renumbered at u cells one low shared NoChange is h = tt
    renumbered at u cells one low shared (ByPosts v) is (inr never) = inr never
    renumbered at u cells one low shared (ByPosts v) is (inl none) =
        let k : IsMarkedIn new at v = subst (IsDecidedIn new at) is ((decides_exactly size new (IsReached.Further m step r allowed)).decided at one low) in
        absurd (omega (arith, none, k.one))
    renumbered at u cells one low shared (BySettles v group adopts) is none =
        let k : IsSettledIn new at v = subst (IsDecidedIn new at) is ((decides_exactly size new (IsReached.Further m step r allowed)).decided at one low) in
        apart_bools shared (ap (λ cs. share cs cells) (k.cells ∙ ap (λ n. (new.changes n).cells) none ∙ (changes_are_own size new (IsReached.Further m step r allowed)).fit.none))

    own_after : (t at : ℕ) → is_before (new.txns t).stage ≡ true → (new.txns t).work ≡ Own → settles_first (new.txns t).job ≡ true → IsLaterOver new (cells_of_job (new.txns t).job) (new.txns t).phase at → PhaseFrom size m new at → IsQuietFor new.changes (new.txns t).own (new.phases at).decides
    own_after t at before work first l (Now s may now is bricks) = subst (IsQuietFor new.changes (new.txns t).own) (sym (ap (λ (q : Phase). q.decides) is)) tt
    own_after t at before work first l (Old low) = by_move (txn_moves size m step allowed t) where
      still : (y : Txn) → new.txns t ≡ y → is_before (m.txns t).stage ≡ true → y.work ≡ (m.txns t).work → y.phase ≡ (m.txns t).phase → y.job ≡ (m.txns t).job → IsQuietFor new.changes (m.txns t).own (new.phases at).decides
      still y is was_before w p j =
          let same_job : (new.txns t).job ≡ (m.txns t).job = ap (λ (z : Txn). z.job) is ∙ j in
          let same_phase : (new.txns t).phase ≡ (m.txns t).phase = ap (λ (z : Txn). z.phase) is ∙ p in
          let old_work : (m.txns t).work ≡ Own = sym (ap (λ (z : Txn). z.work) is ∙ w) ∙ work in
          let old_first : settles_first (m.txns t).job ≡ true = sym (ap settles_first same_job) ∙ first in
          let shared : share (m.phases at).cells (cells_of_job (m.txns t).job) ≡ true = sym (ap (λ cs. share cs (cells_of_job (new.txns t).job)) (goes.cells at low) ∙ ap (λ z. share (m.phases at).cells (cells_of_job z)) same_job) ∙ l.common in
          let later : (m.txns t).phase < at = subst (λ q. q < at) same_phase l.later in
          quiet_own size m r step allowed t at (one_at (m.txns t).phase at later) low was_before old_work old_first shared (was.own t at was_before old_work old_first (record { later = later; ended = low; common = shared }))

      of_old : (y : Txn) → new.txns t ≡ y → is_before (m.txns t).stage ≡ true → y.work ≡ (m.txns t).work → y.phase ≡ (m.txns t).phase → y.job ≡ (m.txns t).job → y.own ≡ (m.txns t).own → IsQuietFor new.changes (new.txns t).own (new.phases at).decides
      of_old y is was_before w p j o = subst (λ n. IsQuietFor new.changes n (new.phases at).decides) (sym (ap (λ (z : Txn). z.own) is ∙ o)) (still y is was_before w p j)

      none : (y : Txn) → new.txns t ≡ y → is_before y.stage ≡ false → IsQuietFor new.changes (new.txns t).own (new.phases at).decides
      none y is free = apart_bools before (ap (λ (z : Txn). is_before z.stage) is ∙ free)

      copies_own : (w : Work) (group : Option Replicas) → w ≡ Own → MayCopyAs m t w group → IsCopied (m.txns t).stage
      copies_own Own None e h = h.0
      copies_own Own (Some g) e h = absurd h
      copies_own (Settles u) group e h = absurd (let no : Settles u ≡ Own = e in cc)

      by_move : TxnMove size m step t (new.txns t) → IsQuietFor new.changes (new.txns t).own (new.phases at).decides
      by_move (TxnMove.Goes quiet g) = of_old (new.txns t) refl (sym (keeps_before (m.txns t).stage (new.txns t).stage g.stage) ∙ before) g.task.work g.task.phase g.task.own.job g.task.own.own
      by_move (TxnMove.Begins graph own step_is b is) = none _ is refl
      by_move (TxnMove.Locks Own step_is h is) = none _ is refl
      by_move (TxnMove.Locks (Settles v) step_is h is) = none _ is refl
      by_move (TxnMove.Reaches step_is h is) = absurd (omega (arith, low, l.later, ap (λ (z : Txn). z.phase) is))
      by_move (TxnMove.Marks step_is h is) =
          renumbered at (new.txns t).own (cells_of_job (new.txns t).job) (one_at (new.txns t).phase at l.later) l.ended l.common (new.phases at).decides refl
          (subst (λ n. IsQuietFor new.changes n (new.phases at).decides) h.unmarked (still _ is (copied_before (m.txns t).stage h.copied) refl refl refl))
      by_move (TxnMove.Unsettles step_is h is) = none _ is refl
      by_move (TxnMove.Posts step_is h is) = none _ is refl
      by_move (TxnMove.SettlesAs group adopts step_is h is) = none _ is refl
      by_move (TxnMove.Bears step_is h is) = none _ is refl
      by_move (TxnMove.Copies run step_is h is) = of_old _ is (copied_before (m.txns t).stage (copies_own (m.txns t).work run.group (sym (ap (λ (z : Txn). z.work) is) ∙ work) h.allowed)) refl refl refl refl
      by_move (TxnMove.Clears step_is h is) = of_old _ is (ap is_before h.turn) refl refl refl refl
      by_move (TxnMove.Polls step_is h is) = none _ is refl
      by_move (TxnMove.Unlocks step_is h is) = none _ is refl
      by_move (TxnMove.Rests step_is h is) = none _ is refl
      by_move (TxnMove.Ends step_is h is) = none _ is refl

-- ---- every list of steps

pub later_are_quiet : (size : Size) (m : State) → IsReached size m → LaterAreQuiet m
later_are_quiet size m IsReached.Start = record {
  deciding = λ p at u one of unsettled l. absurd (let e : false ≡ true = unsettled in cc);
  settling = λ t at u behind work unsettled l. absurd (let e : false ≡ true = behind in cc);
  own = λ t at before work first l. absurd (let e : false ≡ true = before in cc);
}
later_are_quiet size m (IsReached.Further old step reached allowed) = record {
  deciding = λ p at u one of unsettled l. deciding_after size old reached step allowed (later_are_quiet size old reached) p at u one of (unsettled_from size old reached step allowed u unsettled) l (phase_from size old step allowed at l.ended);
  settling = λ t at u behind work unsettled l. settling_after size old reached step allowed (later_are_quiet size old reached) t at u behind work (unsettled_from size old reached step allowed u unsettled) l (phase_from size old step allowed at l.ended);
  own = λ t at before work first l. own_after size old reached step allowed (later_are_quiet size old reached) t at before work first l (phase_from size old step allowed at l.ended);
}
