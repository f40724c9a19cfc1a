-- Each step keeps what lock phases decide and whom they accuse by that.
use Rattle.std.proofs.Common.{◌≡◌, ◌∙◌, ℕ, ◌+◌, ◌≤◌, Bool, true, false, refl, sym, ap, subst, ◌⊎◌, inl, inr, arith, Option, Some, None}
use Rattle.std.specs.Prelude.{◌||◌}
use Rattle.fop_types.specs.declared.jobs.Job.TheVariants as job
use Rattle.afr_machine.specs.Replicas.{Size, Replicas, outside}
use Rattle.afr_machine.specs.Changes.{Change}
use Rattle.afr_machine.specs.Phases.{Phase, Deciding}
use Rattle.afr_machine.specs.Phases.Deciding.{NoChange, ByPosts, BySettles}
use Rattle.afr_machine.specs.Transactions.{Work, Stage, Txn, new_txn}
use Rattle.afr_machine.specs.Transactions.Work.{Own, Settles}
use Rattle.afr_machine.specs.Transactions.Stage.{Locked, Applying, Settling, Bearing, Copying}
use Rattle.afr_machine.specs.States.{State, phase_of}
use Rattle.afr_machine.specs.Turns.{Turn, MayMarkNow, MayPostNow, MaySettleNow, MayCopyAs, FollowsSettling, phase_reached, drawing, posting, settling, deciding_now, entering, members}
use Rattle.afr_machine.specs.Steps.{Step, Allowed, after, IsReached}
use Rattle.afr_machine.proofs.Tables.{at_same}
use Rattle.afr_laws.specs.Drawn.{change_of}
use Rattle.afr_laws.specs.OwnChanges.{was_unsettled, IsOwnStage}
use Rattle.afr_laws.specs.Fresh.{is_behind, IsWorkOf}
use Rattle.afr_laws.proofs.OwnChanges.Steps.{changes_are_own}
use Rattle.afr_laws.proofs.Fresh.Known.{phases_are_known}
use Rattle.afr_laws.proofs.Fresh.Turns.{copied_behind, copies_behind}
use Rattle.afr_laws.proofs.Overtaken.Steps.{PhaseFrom}
use Rattle.afr_laws.proofs.Overtaken.Steps.PhaseFrom.{Old, Now}
use Rattle.afr_soundness.specs.Deciding.{AccusesNobody, IsAccusedBy, IsMarkedIn, IsDecidedIn, IsSettledBy, IsCopiedFrom, DecidesIn, KnowsDeciding, DecidesExactly}
use Rattle.afr_soundness.proofs.TxnMoves.{TxnMove}
use Rattle.afr_soundness.proofs.PhaseMoves.{PhaseMove, phase_moves}
use Rattle.afr_soundness.proofs.ChangeMoves.{sent_stays}
use Rattle.afr_soundness.proofs.Deciding.Kept.{IsDecidingTurn, SameDeciding, IsAppliedNow, nobody_yet, kept, applying_own, drawn_by, done_goes, still, quiet, behind_still, not_deciding, goes_knows, locks_knows, none_decided}

-- an accusation of nobody grows to exactly those that are added
grows : (old accused : Replicas) → AccusesNobody old → (i : ℕ) → (old i || accused i) ≡ accused i
grows old accused none i = ap (λ b. b || accused i) (none i)

module _ (size : Size) (m : State) (r : IsReached size m) (d : DecidesExactly size m) (step : Step) (allowed : Allowed size m step) where
  abbrev new : State
  new = after size m step

  -- ---- transactions

  pub one_of : (t : ℕ) → is_behind (m.txns t).stage ≡ true → 1 ≤ (m.txns t).phase
  one_of t behind = (d.transactions t).one behind

  marks_phase : (t : ℕ) → step ≡ Step.Turns t Turn.Marks → (h : MayMarkNow size m t) → new.phases (m.txns t).phase ≡ record (phase_of m t) { decides = ByPosts (m.drawn + 1) }
  marks_phase t step_is h =
      ap (λ st. (after size m st).phases (m.txns t).phase) step_is ∙ ap (λ j. (drawing m t j).phases (m.txns t).phase) h.job_is
      ∙ at_same m.phases (m.txns t).phase (record (phase_of m t) { decides = ByPosts (m.drawn + 1) })

  posts_phase : (t : ℕ) → step ≡ Step.Turns t Turn.Posts → (h : MayPostNow size m t) → new.phases (m.txns t).phase ≡ record (phase_of m t) { accused = λ i. (phase_of m t).accused i || outside size (m.changes h.change).done i }
  posts_phase t step_is h =
      ap (λ st. (after size m st).phases (m.txns t).phase) step_is ∙ ap (λ s. (posting size m t s).phases (m.txns t).phase) h.turn
      ∙ at_same m.phases (m.txns t).phase (record (phase_of m t) { accused = λ i. (phase_of m t).accused i || outside size (m.changes h.change).done i })

  posts_changes : (t : ℕ) → step ≡ Step.Turns t Turn.Posts → (h : MayPostNow size m t) → new.changes ≡ m.changes
  posts_changes t step_is h = ap (λ st. (after size m st).changes) step_is ∙ ap (λ s. (posting size m t s).changes) h.turn

  settles_phase : (t : ℕ) (group : Replicas) (adopts : Bool) → step ≡ Step.Turns t (Turn.SettlesAs group adopts) → (h : MaySettleNow size m t group adopts) →
      ((new.phases (m.txns t).phase).decides ≡ BySettles h.change group adopts) × ((i : ℕ) → (new.phases (m.txns t).phase).accused i ≡ ((phase_of m t).accused i || outside size group i))
  settles_phase t group adopts step_is h =
      let is : new.phases (m.txns t).phase ≡ (settling size m t (Settles h.change) group adopts).phases (m.txns t).phase = ap (λ st. (after size m st).phases (m.txns t).phase) step_is ∙ ap (λ w. (settling size m t w group adopts).phases (m.txns t).phase) h.work_is in
      let middle : State = deciding_now m t (BySettles h.change group adopts) in
      let last : (settling size m t (Settles h.change) group adopts).phases (m.txns t).phase ≡ record (phase_of middle t) { accused = λ j. (phase_of middle t).accused j || outside size group j } = at_same middle.phases (m.txns t).phase (record (phase_of middle t) { accused = λ j. (phase_of middle t).accused j || outside size group j }) in
      let first : phase_of middle t ≡ record (phase_of m t) { decides = BySettles h.change group adopts } = at_same m.phases (m.txns t).phase (record (phase_of m t) { decides = BySettles h.change group adopts }) in (
        ap (λ (q : Phase). q.decides) (is ∙ last) ∙ ap (λ (q : Phase). q.decides) first,
        λ i. ap (λ (q : Phase). q.accused i) (is ∙ last) ∙ ap (λ (q : Phase). q.accused i || outside size group i) first,
      )

  pub marked_none : (t : ℕ) (h : MayMarkNow size m t) → (phase_of m t).decides ≡ NoChange
  marked_none t h = none_decided size m r d step allowed t (m.txns t).stage (m.txns t).work h.copied h.work_is (d.transactions t).decides

  pub nobody_in : (t : ℕ) → is_behind (m.txns t).stage ≡ true → (phase_of m t).decides ≡ NoChange → AccusesNobody (phase_of m t).accused
  nobody_in t behind none = nobody_yet size m r d step allowed (m.txns t).phase (one_of t behind) (phases_are_known size m r t).low none

  pub applies_nobody : (t u : ℕ) → (m.txns t).stage ≡ Applying u → ((phase_of m t).decides ≡ ByPosts u) × AccusesNobody (phase_of m t).accused
  applies_nobody t u is = subst (λ s. DecidesIn size m.changes (m.txns t).work s (phase_of m t)) is (d.transactions t).decides

  pub locked_none : (t : ℕ) → (m.txns t).stage ≡ Locked → (phase_of m t).decides ≡ NoChange
  locked_none t is = subst (λ s. DecidesIn size m.changes (m.txns t).work s (phase_of m t)) is (d.transactions t).decides

  -- a copy keeps what the lock phase decides
  copies_decided : (t : ℕ) (work : Work) (group : Option Replicas) (stage : Stage) → (m.txns t).stage ≡ stage → MayCopyAs m t work group → (m.txns t).work ≡ work → IsWorkOf stage work → DecidesIn size m.changes work stage (phase_of m t) → IsCopiedFrom work group (phase_of m t).decides
  copies_decided t Own None stage is h work_is of_work decides = none_decided size m r d step allowed t (m.txns t).stage Own h.0 refl (subst (λ s. DecidesIn size m.changes Own s (phase_of m t)) (sym is) decides)
  copies_decided t Own (Some sources) stage is h work_is of_work decides = absurd h
  copies_decided t (Settles u) None stage is h work_is of_work decides = absurd h
  copies_decided t (Settles u) (Some sources) stage is h work_is of_work decides = by_stage stage (subst (λ s. FollowsSettling m s sources) is h) of_work decides where
    by_stage : (st : Stage) → FollowsSettling m st sources → IsWorkOf st (Settles u) → DecidesIn size m.changes (Settles u) st (phase_of m t) → IsSettledBy u sources (phase_of m t).decides
    by_stage (Settling change group adopts) f w e =
        let same : u ≡ change = ap change_of w in
        subst (IsSettledBy u sources) (sym e) (sym same, sym f.1)
    by_stage (Copying run) f w e = subst (λ (g : Option Replicas). IsCopiedFrom (Settles u) g (phase_of m t).decides) f.1 e
    by_stage other f w e = absurd f

  pub knows_after : (t : ℕ) (y : Txn) → TxnMove size m step t y → KnowsDeciding size new.changes new.phases y
  knows_after t y (TxnMove.Goes none g) = goes_knows size m r d step allowed t y none g
  knows_after t y (TxnMove.Begins graph own1 step_is at is) = subst (KnowsDeciding size new.changes new.phases) (sym is) (quiet size m r d step allowed (new_txn graph own1) refl refl)
  knows_after t y (TxnMove.Locks work step_is h is) = subst (KnowsDeciding size new.changes new.phases) (sym is) (locks_knows size m r d step allowed t work h)
  knows_after t y (TxnMove.Reaches step_is h is) = subst (KnowsDeciding size new.changes new.phases) (sym is) (record {
    one = λ e. omega arith;
    unmarked = λ e. absurd cc;
    decides = ap (λ st. ((after size m st).phases (m.ended + 1)).decides) step_is ∙ ap (λ (q : Phase). q.decides) (at_same m.phases (m.ended + 1) (phase_reached m t));
  })
  knows_after t y (TxnMove.Marks step_is h is) =
      let behind = copied_behind (m.txns t).stage h.copied in
      subst (KnowsDeciding size new.changes new.phases) (sym is) (record {
        one = λ e. one_of t behind;
        unmarked = λ e. absurd cc;
        decides = (ap (λ (q : Phase). q.decides) (marks_phase t step_is h), λ i. ap (λ (q : Phase). q.accused i) (marks_phase t step_is h) ∙ nobody_in t behind (marked_none t h) i);
      })
  knows_after t y (TxnMove.Unsettles step_is h is) =
      let behind : is_behind (m.txns t).stage ≡ true = ap is_behind h.turn in
      let none : IsDecidingTurn t step → ⊥ = λ (q : IsDecidingTurn t step). subst (λ st. IsDecidingTurn t st) step_is q in
      subst (KnowsDeciding size new.changes new.phases) (sym is)
      (behind_still size m r d step allowed t (entering (m.txns t) (Applying h.change) (m.txns t).confirmed) behind refl refl
      (subst (λ s. DecidesIn size new.changes (m.txns t).work s (new.phases (m.txns t).phase)) h.turn (still size m r d step allowed t behind none)))
  knows_after t y (TxnMove.Posts step_is h is) =
      let behind : is_behind (m.txns t).stage ≡ true = ap is_behind h.turn in
      let old = applies_nobody t h.change h.turn in
      subst (KnowsDeciding size new.changes new.phases) (sym is) (record {
        one = λ e. one_of t behind;
        unmarked = λ e. absurd cc;
        decides = (
          ap (λ (q : Phase). q.decides) (posts_phase t step_is h) ∙ old.0,
          λ i. ap (λ (q : Phase). q.accused i) (posts_phase t step_is h) ∙ grows (phase_of m t).accused (outside size (m.changes h.change).done) old.1 i ∙ ap (λ (f : ℕ → Change). outside size (f h.change).done i) (sym (posts_changes t step_is h)),
        );
      })
  knows_after t y (TxnMove.SettlesAs group adopts step_is h is) = subst (KnowsDeciding size new.changes new.phases) (sym is) (record {
    one = λ e. one_of t (ap is_behind h.turn);
    unmarked = λ e. absurd cc;
    decides = (settles_phase t group adopts step_is h).0;
  })
  knows_after t y (TxnMove.Bears step_is h is) =
      let behind : is_behind (m.txns t).stage ≡ true = ap is_behind h.turn in
      subst (KnowsDeciding size new.changes new.phases) (sym is)
      (behind_still size m r d step allowed t (entering (m.txns t) Bearing (members m t)) behind refl refl
      ((kept size m r d step allowed t behind (not_deciding size m r d step allowed t Turn.Bears step_is refl)).decides ∙ locked_none t h.turn))
  knows_after t y (TxnMove.Copies run step_is h is) =
      let behind = copies_behind m t (m.txns t).work run.group h.allowed in
      subst (KnowsDeciding size new.changes new.phases) (sym is)
      (behind_still size m r d step allowed t (entering (m.txns t) (Copying run) (λ k. false)) behind refl refl
      (subst (λ e. IsCopiedFrom (m.txns t).work run.group e) (sym (kept size m r d step allowed t behind (not_deciding size m r d step allowed t (Turn.Copies run) step_is refl)).decides)
      (copies_decided t (m.txns t).work run.group (m.txns t).stage refl h.allowed refl (phases_are_known size m r t).work (d.transactions t).decides)))
  knows_after t y (TxnMove.Clears step_is h is) =
      let behind : is_behind (m.txns t).stage ≡ true = ap is_behind h.turn in
      subst (KnowsDeciding size new.changes new.phases) (sym is)
      (behind_still size m r d step allowed t (entering (m.txns t) (Copying (record h.run { clears = true })) (members m t)) behind refl refl
      (subst (λ s. DecidesIn size new.changes (m.txns t).work s (new.phases (m.txns t).phase)) h.turn (still size m r d step allowed t behind (not_deciding size m r d step allowed t Turn.Clears step_is refl))))
  knows_after t y (TxnMove.Polls step_is h is) = subst (KnowsDeciding size new.changes new.phases) (sym is) (quiet size m r d step allowed _ refl refl)
  knows_after t y (TxnMove.Unlocks step_is h is) = subst (KnowsDeciding size new.changes new.phases) (sym is) (quiet size m r d step allowed _ refl refl)
  knows_after t y (TxnMove.Rests step_is h is) = subst (KnowsDeciding size new.changes new.phases) (sym is) (quiet size m r d step allowed _ refl refl)
  knows_after t y (TxnMove.Ends step_is h is) = subst (KnowsDeciding size new.changes new.phases) (sym is) (quiet size m r d step allowed _ refl refl)

  -- ---- whom a lock phase accuses

  applying_sent : (t u : ℕ) → (m.txns t).stage ≡ Applying u → was_unsettled (m.changes u).verdict ≡ true
  applying_sent t u is = (subst (λ s. IsOwnStage m.changes (m.txns t).own s) is ((changes_are_own size m r).own t).stage).1.1

  -- a change that was decided in a lock phase may be applied by more while that phase accuses nobody
  changes_go : (p : ℕ) → 1 ≤ p → p ≤ m.ended → (decides : Deciding) → (m.phases p).decides ≡ decides → IsAccusedBy size m.changes decides (m.phases p).accused → IsAccusedBy size new.changes decides (m.phases p).accused
  changes_go p one low NoChange is h = h
  changes_go p one low (BySettles u group adopts) is h = h
  changes_go p one low (ByPosts u) is (inl none) = inl none
  changes_go p one low (ByPosts u) is (inr exact) = by_case (done_goes size m r d step allowed u marked.drawn) where
    marked : IsMarkedIn m p u
    marked = subst (IsDecidedIn m p) is (d.decided p one low)

    by_case : ((new.changes u).done ≡ (m.changes u).done) ⊎ IsAppliedNow size m r d step allowed u → IsAccusedBy size new.changes (ByPosts u) (m.phases p).accused
    by_case (inl same) = inr (sent_stays size m step allowed u marked.drawn exact.0, λ i. exact.1 i ∙ ap (λ (a : Replicas). outside size a i) (sym same))
    by_case (inr now) =
        let by = drawn_by size m r d step allowed now.txn u (applying_own size m r d step allowed now.txn u now.applies) in
        let txn : (m.phases p).by ≡ now.txn = sym marked.by ∙ by.1 in
        let at : (m.txns now.txn).phase ≡ p = ap (λ t. (m.txns t).phase) (sym txn) ∙ marked.phase in
        inl (subst (λ q. AccusesNobody (m.phases q).accused) at (applies_nobody now.txn u now.applies).1)

  same_accused : (p : ℕ) → 1 ≤ p → p ≤ m.ended → SameDeciding (m.phases p) (new.phases p) → IsAccusedBy size new.changes (new.phases p).decides (new.phases p).accused
  same_accused p one low same =
      subst (λ e. IsAccusedBy size new.changes e (new.phases p).accused) (sym same.decides)
      (subst (λ (a : Replicas). IsAccusedBy size new.changes (m.phases p).decides a) (sym same.accused) (changes_go p one low (m.phases p).decides refl (d.accused p one low)))

  old_accused : (p : ℕ) → 1 ≤ p → p ≤ m.ended → PhaseMove size m step p (new.phases p) → IsAccusedBy size new.changes (new.phases p).decides (new.phases p).accused
  old_accused p one low (PhaseMove.Same is) = same_accused p one low (record { decides = ap (λ (q : Phase). q.decides) is; accused = ap (λ (q : Phase). q.accused) is })
  old_accused p one low (PhaseMove.Reaches t step_is may at is) = absurd (omega (arith, at, low))
  old_accused p one low (PhaseMove.Marks t step_is h at is) =
      let none : AccusesNobody (m.phases p).accused = subst (λ q. AccusesNobody (m.phases q).accused) (sym at) (nobody_in t (copied_behind (m.txns t).stage h.copied) (marked_none t h)) in
      subst (λ (q : Phase). IsAccusedBy size new.changes q.decides q.accused) (sym is) (inl none)
  old_accused p one low (PhaseMove.Posts t step_is h at is) =
      let old = applies_nobody t h.change h.turn in
      let decides : (m.phases p).decides ≡ ByPosts h.change = ap (λ q. (m.phases q).decides) at ∙ old.0 in
      let none : AccusesNobody (m.phases p).accused = subst (λ q. AccusesNobody (m.phases q).accused) (sym at) old.1 in
      subst (λ (q : Phase). IsAccusedBy size new.changes q.decides q.accused) (sym is)
      (subst (λ e. IsAccusedBy size new.changes e (λ i. (m.phases p).accused i || outside size (m.changes h.change).done i)) (sym decides)
      (inr (ap (λ (f : ℕ → Change). was_unsettled (f h.change).verdict) (posts_changes t step_is h) ∙ applying_sent t h.change h.turn, λ i. grows (m.phases p).accused (outside size (m.changes h.change).done) none i ∙ ap (λ (f : ℕ → Change). outside size (f h.change).done i) (sym (posts_changes t step_is h)))))
  old_accused p one low (PhaseMove.SettlesAs t group adopts step_is h at is) =
      let none : AccusesNobody (m.phases p).accused = subst (λ q. AccusesNobody (m.phases q).accused) (sym at) (nobody_in t (ap is_behind h.turn) (locked_none t h.turn)) in
      subst (λ (q : Phase). IsAccusedBy size new.changes q.decides q.accused) (sym is) (grows (m.phases p).accused (outside size group) none)
  old_accused p one low (PhaseMove.Asks t k first ask step_is may w at is) = same_accused p one low (record { decides = ap (λ (q : Phase). q.decides) is; accused = ap (λ (q : Phase). q.accused) is })
  old_accused p one low (PhaseMove.Clears k by cells who answer run step_is handed stage at is) = same_accused p one low (record { decides = ap (λ (q : Phase). q.decides) is; accused = ap (λ (q : Phase). q.accused) is })
  old_accused p one low (PhaseMove.Confirms k by ask answer step_is handed at is) = same_accused p one low (record { decides = ap (λ (q : Phase). q.decides) is; accused = ap (λ (q : Phase). q.accused) is })

  pub accused_after : (p : ℕ) → 1 ≤ p → PhaseFrom size m new p → IsAccusedBy size new.changes (new.phases p).decides (new.phases p).accused
  accused_after p one (Old low) = old_accused p one low (phase_moves size m step allowed p)
  accused_after p one (Now t may at is bricks) = subst (λ (q : Phase). IsAccusedBy size new.changes q.decides q.accused) (sym is) (λ i. refl)
