-- What a step leaves of a later lock phase that accuses nobody on the cells of an unsettled change.
use Rattle.std.proofs.Common.{◌≡◌, ◌∙◌, ℕ, ◌+◌, ◌≤◌, Bool, true, false, refl, sym, ap, subst, ◌⊎◌, inl, inr, arith}
use Rattle.std.specs.Prelude.{◌≢◌}
use Rattle.std.proofs.lemmas.Bool.{cases_eq}
use Rattle.afr_machine.specs.Replicas.{Size, Replicas}
use Rattle.afr_machine.specs.Touching.{share}
use Rattle.afr_machine.specs.Changes.{Change, is_unsettled}
use Rattle.afr_machine.specs.Phases.{Phase, Deciding}
use Rattle.afr_machine.specs.Phases.Deciding.{NoChange, ByPosts, BySettles}
use Rattle.afr_machine.specs.Transactions.{Stage, cells_of_job, settles_first, may_hold, is_over}
use Rattle.afr_machine.specs.Transactions.Work.{Own}
use Rattle.afr_machine.specs.Transactions.Stage.{Locking, Locked, Marking, Copying}
use Rattle.afr_machine.specs.States.{State, phase_of}
use Rattle.afr_machine.specs.Births.{cells_of_work}
use Rattle.afr_machine.specs.Answering.{passed}
use Rattle.afr_machine.specs.Turns.{Turn, MaySettleNow, IsCopied, drawing}
use Rattle.afr_machine.specs.Steps.{Step, Allowed, MayUnsettle, after, IsReached}
use Rattle.afr_machine.proofs.Tables.{at_same}
use Rattle.afr_laws.specs.OwnChanges.{was_unsettled}
use Rattle.afr_laws.specs.Fresh.{is_behind}
use Rattle.afr_laws.proofs.Bools.{is_or_not, apart_bools}
use Rattle.afr_laws.proofs.Sharing.{share_sym}
use Rattle.afr_laws.proofs.OwnChanges.Steps.{changes_are_own}
use Rattle.afr_laws.proofs.Fresh.Phased.{PhasesGo}
use Rattle.afr_laws.proofs.Fresh.Known.{phases_are_known}
use Rattle.afr_laws.proofs.Fresh.Steps.{step_phases}
use Rattle.afr_soundness.specs.Deciding.{IsMarkedIn, IsDecidedIn, DecidesExactly}
use Rattle.afr_soundness.specs.Later.{IsQuietFor, is_before}
use Rattle.afr_soundness.proofs.TxnMoves.{StageKeeps}
use Rattle.afr_soundness.proofs.PhaseMoves.{PhaseMove, phase_moves}
use Rattle.afr_soundness.proofs.ChangeMoves.{ChangeMove, change_moves}
use Rattle.afr_soundness.proofs.Deciding.Kept.{keeps_test}
use Rattle.afr_soundness.proofs.Deciding.Whose.{decides_exactly, unsettled_was}
use Rattle.afr_soundness.proofs.Unsettled.{becomes_own, unsettler, none_shares, one_unsettled, no_other_unsettled}

passed_before : (stage : Stage) → is_before (passed stage) ≡ is_before stage
passed_before (Locking cells shared next) = refl
passed_before other = refl

pub keeps_before : (old new : Stage) → StageKeeps old new → is_before new ≡ is_before old
keeps_before old new g = keeps_test is_before passed_before (λ run later. refl) old new g

before_behind : (stage : Stage) → is_before stage ≡ true → is_behind stage ≡ true
before_behind Locked h = refl
before_behind (Marking u) h = refl
before_behind (Copying run) h = refl
before_behind other h = absurd (let e : false ≡ true = h in cc)

behind_holds : (stage : Stage) → is_behind stage ≡ true → may_hold stage ≡ true
behind_holds Stage.Over h = absurd (let e : false ≡ true = h in cc)
behind_holds Stage.Choosing h = absurd (let e : false ≡ true = h in cc)
behind_holds Stage.Polling h = absurd (let e : false ≡ true = h in cc)
behind_holds Stage.Unlocking h = absurd (let e : false ≡ true = h in cc)
behind_holds other h = refl

behind_runs : (stage : Stage) → is_behind stage ≡ true → is_over stage ≡ false
behind_runs Stage.Over h = absurd (let e : false ≡ true = h in cc)
behind_runs other h = refl

pub copied_before : (stage : Stage) → IsCopied stage → is_before stage ≡ true
copied_before Locked h = refl
copied_before (Copying run) h = refl
copied_before other h = absurd h

-- ---- one step

module _ (size : Size) (m : State) (r : IsReached size m) (step : Step) (allowed : Allowed size m step) where
  abbrev new : State
  new = after size m step

  goes : PhasesGo m.ended m.phases (after size m step).phases
  goes = step_phases size m step

  d : DecidesExactly size m
  d = decides_exactly size m r

  -- ---- a change that became unsettled once did before, or becomes so now

  pub data SentFrom (v : ℕ) : Type 0 where
    Before : was_unsettled (m.changes v).verdict ≡ true → SentFrom v
    Unsettles : (t : ℕ) → step ≡ Step.Unsettles t → (h : MayUnsettle size m t) → v ≡ h.change → SentFrom v

  sent_from : (v : ℕ) → was_unsettled (new.changes v).verdict ≡ true → SentFrom v
  sent_from v sent = by_case (change_moves size m step allowed v) where
    by_case : ChangeMove size m step v (new.changes v) → SentFrom v
    by_case (ChangeMove.Same is) = Before (sym (ap (λ (c : Change). was_unsettled c.verdict) is) ∙ sent)
    by_case (ChangeMove.Marks t step_is h at is) = absurd (let e : false ≡ true = sym (ap (λ (c : Change). was_unsettled c.verdict) is) ∙ sent in cc)
    by_case (ChangeMove.Unsettles t step_is h at is) = Unsettles t step_is h at
    by_case (ChangeMove.Applies k by w op answer step_is handed stage is) = Before (sym (ap (λ (c : Change). was_unsettled c.verdict) is) ∙ sent)
    by_case (ChangeMove.Decides t step_is h at unsettled is) = Before (unsettled_was (m.changes v).verdict unsettled)

  -- ---- one lock phase that had ended

  module _ (at u : ℕ) (one : 1 ≤ at) (low : at ≤ m.ended)
      (settles : (t : ℕ) (group : Replicas) (adopts : Bool) → step ≡ Step.Turns t (Turn.SettlesAs group adopts) → (h : MaySettleNow size m t group adopts) → at ≡ (m.txns t).phase → h.change ≡ u)
      (becomes : (v t : ℕ) → step ≡ Step.Unsettles t → (h : MayUnsettle size m t) → v ≡ h.change → (m.phases at).decides ≡ ByPosts v → v ≡ u) where
    carry : (decides : Deciding) → (m.phases at).decides ≡ decides → IsQuietFor m.changes u decides → IsQuietFor new.changes u decides
    carry NoChange is h = tt
    carry (BySettles v group adopts) is h = h
    carry (ByPosts v) is (inl same) = inl same
    carry (ByPosts v) is (inr never) = by_case (is_or_not (was_unsettled (new.changes v).verdict)) where
      from : SentFrom v → v ≡ u
      from (Before sent) = apart_bools sent never
      from (Unsettles t step_is h same) = becomes v t step_is h same is

      by_case : (was_unsettled (new.changes v).verdict ≡ true) ⊎ (was_unsettled (new.changes v).verdict ≡ false) → (v ≡ u) ⊎ (was_unsettled (new.changes v).verdict ≡ false)
      by_case (inl sent) = inl (from (sent_from v sent))
      by_case (inr none) = inr none

    same : (new.phases at).decides ≡ (m.phases at).decides → IsQuietFor m.changes u (m.phases at).decides → IsQuietFor new.changes u (new.phases at).decides
    same is h = subst (IsQuietFor new.changes u) (sym is) (carry (m.phases at).decides refl h)

    quiet_stays : IsQuietFor m.changes u (m.phases at).decides → IsQuietFor new.changes u (new.phases at).decides
    quiet_stays h = by_case (phase_moves size m step allowed at) where
      by_case : PhaseMove size m step at (new.phases at) → IsQuietFor new.changes u (new.phases at).decides
      by_case (PhaseMove.Same is) = same (ap (λ (q : Phase). q.decides) is) h
      by_case (PhaseMove.Reaches t step_is may now is) = absurd (omega (arith, now, low))
      by_case (PhaseMove.Marks t step_is may now is) =
          let drawn : was_unsettled (new.changes (m.drawn + 1)).verdict ≡ false = ap (λ st. was_unsettled ((after size m st).changes (m.drawn + 1)).verdict) step_is ∙ ap (λ j. was_unsettled ((drawing m t j).changes (m.drawn + 1)).verdict) may.job_is ∙ ap (λ (c : Change). was_unsettled c.verdict) (at_same m.changes (m.drawn + 1) _) in
          subst (IsQuietFor new.changes u) (sym (ap (λ (q : Phase). q.decides) is)) (inr drawn)
      by_case (PhaseMove.Posts t step_is may now is) = same (ap (λ (q : Phase). q.decides) is) h
      by_case (PhaseMove.SettlesAs t group adopts step_is may now is) = subst (IsQuietFor new.changes u) (sym (ap (λ (q : Phase). q.decides) is)) (settles t group adopts step_is may now)
      by_case (PhaseMove.Asks t k first ask step_is may w now is) = same (ap (λ (q : Phase). q.decides) is) h
      by_case (PhaseMove.Clears k by cells who answer run step_is handed stage now is) = same (ap (λ (q : Phase). q.decides) is) h
      by_case (PhaseMove.Confirms k by ask answer step_is handed now is) = same (ap (λ (q : Phase). q.decides) is) h

  -- the cells of a lock phase that settles or marks
  settled_cells : (t : ℕ) (group : Replicas) (adopts : Bool) (h : MaySettleNow size m t group adopts) → (phase_of m t).cells ≡ (m.changes h.change).cells
  settled_cells t group adopts h = (phases_are_known size m r t).cells (ap is_behind h.turn) ∙ ap (cells_of_work m.changes (m.txns t)) h.work_is

  marked_cells : (at v : ℕ) → 1 ≤ at → at ≤ m.ended → (m.phases at).decides ≡ ByPosts v → (m.phases at).cells ≡ (m.changes v).cells
  marked_cells at v one low is = let k : IsMarkedIn m at v = subst (IsDecidedIn m at) is (d.decided at one low) in k.cells

  -- of a change that is unsettled already
  pub quiet_for : (at u : ℕ) → 1 ≤ at → at ≤ m.ended → is_unsettled (m.changes u).verdict ≡ true → share (m.phases at).cells (m.changes u).cells ≡ true → IsQuietFor m.changes u (m.phases at).decides → IsQuietFor new.changes u (new.phases at).decides
  quiet_for at u one low unsettled shared h = quiet_stays at u one low settles becomes h where
    settles : (t : ℕ) (group : Replicas) (adopts : Bool) → step ≡ Step.Turns t (Turn.SettlesAs group adopts) → (k : MaySettleNow size m t group adopts) → at ≡ (m.txns t).phase → k.change ≡ u
    settles t group adopts step_is k now = one_unsettled size m r k.change u k.is_unsettled unsettled (sym (ap (λ cs. share cs (m.changes u).cells) (ap (λ q. (m.phases q).cells) now ∙ settled_cells t group adopts k)) ∙ shared)

    becomes : (v t : ℕ) → step ≡ Step.Unsettles t → (k : MayUnsettle size m t) → v ≡ k.change → (m.phases at).decides ≡ ByPosts v → v ≡ u
    becomes v t step_is k same is =
        absurd (none_shares size m r (m.changes k.change).cells k.alone u unsettled
        (share_sym (m.changes u).cells (m.changes k.change).cells ∙ sym (ap (λ cs. share cs (m.changes u).cells) (marked_cells at v one low is ∙ ap (λ n. (m.changes n).cells) same)) ∙ shared))

  -- of a change that becomes unsettled now
  pub quiet_from : (at t : ℕ) → 1 ≤ at → at ≤ m.ended → step ≡ Step.Unsettles t → (h : MayUnsettle size m t) → IsQuietFor m.changes h.change (m.phases at).decides → IsQuietFor new.changes h.change (new.phases at).decides
  quiet_from at t one low step_is h was = quiet_stays at h.change one low settles becomes was where
    settles : (s : ℕ) (group : Replicas) (adopts : Bool) → step ≡ Step.Turns s (Turn.SettlesAs group adopts) → (k : MaySettleNow size m s group adopts) → at ≡ (m.txns s).phase → k.change ≡ h.change
    settles s group adopts is k now = absurd (let e : Step.Turns s (Turn.SettlesAs group adopts) ≡ Step.Unsettles t = sym is ∙ step_is in cc)

    becomes : (v s : ℕ) → step ≡ Step.Unsettles s → (k : MayUnsettle size m s) → v ≡ k.change → (m.phases at).decides ≡ ByPosts v → v ≡ h.change
    becomes v s is k same decides =
        let e : s ≡ t = ap unsettler (sym is ∙ step_is) in
        same ∙ sym (becomes_own size m r step allowed s k).0 ∙ ap (λ i. (m.txns i).own) e ∙ (becomes_own size m r step allowed t h).0

  -- of a transaction that is to make its own change
  pub quiet_own : (t at : ℕ) → 1 ≤ at → at ≤ m.ended → is_before (m.txns t).stage ≡ true → (m.txns t).work ≡ Own → settles_first (m.txns t).job ≡ true → share (m.phases at).cells (cells_of_job (m.txns t).job) ≡ true → IsQuietFor m.changes (m.txns t).own (m.phases at).decides → IsQuietFor new.changes (m.txns t).own (new.phases at).decides
  quiet_own t at one low before work first shared was = quiet_stays at (m.txns t).own one low settles becomes was where
    behind : is_behind (m.txns t).stage ≡ true
    behind = before_behind (m.txns t).stage before

    has_settled : (m.txns t).settled ≡ true
    has_settled = ((changes_are_own size m r).own t).settled work (behind_holds (m.txns t).stage behind)

    runs : is_over (m.txns t).stage ≡ false
    runs = behind_runs (m.txns t).stage behind

    settles : (s : ℕ) (group : Replicas) (adopts : Bool) → step ≡ Step.Turns s (Turn.SettlesAs group adopts) → (k : MaySettleNow size m s group adopts) → at ≡ (m.txns s).phase → k.change ≡ (m.txns t).own
    settles s group adopts is k now =
        sym (no_other_unsettled size m r t k.change first has_settled runs k.is_unsettled (sym (ap (λ cs. share cs (cells_of_job (m.txns t).job)) (ap (λ q. (m.phases q).cells) now ∙ settled_cells s group adopts k)) ∙ shared))

    becomes : (v s : ℕ) → step ≡ Step.Unsettles s → (k : MayUnsettle size m s) → v ≡ k.change → (m.phases at).decides ≡ ByPosts v → v ≡ (m.txns t).own
    becomes v s is k same decides = by_txn (cases_eq t s) where
      by_txn : (t ≡ s) ⊎ (t ≢ s) → v ≡ (m.txns t).own
      by_txn (inl e) = same ∙ sym (becomes_own size m r step allowed s k).0 ∙ ap (λ i. (m.txns i).own) (sym e)
      by_txn (inr other) = apart_bools (sym (ap (λ cs. share cs (cells_of_job (m.txns t).job)) (marked_cells at v one low decides ∙ ap (λ n. (m.changes n).cells) same)) ∙ shared) (k.apart t other runs first has_settled)
