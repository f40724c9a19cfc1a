-- Confirmations of posts and settles are noted, over every list of steps.
use Rattle.std.proofs.Common.{◌≡◌, ◌∙◌, ℕ, ◌≤◌, Bool, true, false, refl, sym, ap, subst, ◌⊎◌, inl, inr, arith}
use Rattle.std.specs.Prelude.{List}
use Rattle.fop_types.specs.declared.cells.Cell.{Cell}
use Rattle.fop_types.specs.declared.jobs.Job.{Job}
use Rattle.afr_machine.specs.Replicas.{Size, Replicas, outside}
use Rattle.afr_machine.specs.Copies.{Fetched}
use Rattle.afr_machine.specs.Requests.{Ask}
use Rattle.afr_machine.specs.Requests.Ask.{Lock, Unlock, Mark, Op, Post, Fetch, Replace, Clear, Settle, Index, Open, Release, OpenFirst}
use Rattle.afr_machine.specs.Changes.{Change}
use Rattle.afr_machine.specs.Phases.{Phase, Deciding}
use Rattle.afr_machine.specs.Phases.Deciding.{NoChange, ByPosts, BySettles}
use Rattle.afr_machine.specs.Transactions.{Work, Stage, Txn}
use Rattle.afr_machine.specs.Transactions.Work.{Own, Settles}
use Rattle.afr_machine.specs.Transactions.Stage.{Over, Locking, Locked, Marking, Applying, Posting, Settling, Bearing, Copying, Polling, Unlocking}
use Rattle.afr_machine.specs.States.{State, phase_of}
use Rattle.afr_machine.specs.Turns.{Turn, IsCopied, phase_reached}
use Rattle.afr_machine.specs.Answering.{passed}
use Rattle.afr_machine.specs.Steps.{Step, Allowed, after, IsReached}
use Rattle.afr_laws.specs.Asking.{IsFetching, IsReplacing, IsClearing, IsSettlingBy, IsAskedBy}
use Rattle.afr_laws.specs.Fresh.{is_behind}
use Rattle.afr_laws.proofs.Bools.{apart_bools, is_or_not}
use Rattle.afr_laws.proofs.Fresh.Known.{phases_are_known}
use Rattle.afr_laws.proofs.Fresh.Phased.{PhasesGo}
use Rattle.afr_laws.proofs.Fresh.Steps.{step_phases}
use Rattle.afr_laws.proofs.Fresh.Turns.{copied_behind}
use Rattle.afr_laws.proofs.OwnPhases.{keeps_phases}
use Rattle.afr_laws.proofs.Overtaken.Steps.{PhaseFrom, phase_from}
use Rattle.afr_laws.proofs.Overtaken.Steps.PhaseFrom.{Old, Now}
use Rattle.afr_soundness.specs.Deciding.{AccusesOutside, DecidesIn, IsMarkedIn, IsDecidedIn, IsAccusedBy, DecidesExactly}
use Rattle.afr_soundness.proofs.TxnMoves.{TxnMove, txn_moves}
use Rattle.afr_soundness.proofs.PhaseMoves.{PhaseMove, phase_moves}
use Rattle.afr_soundness.proofs.ChangeMoves.{ChangeMove, change_moves}
use Rattle.afr_soundness.proofs.SendMoves.{is_sending, IsConfirmedNow, SendMove, send_moves}
use Rattle.afr_soundness.proofs.States.{phase_stays}
use Rattle.afr_soundness.proofs.Deciding.Kept.{SameDeciding, keeps_test, IsAppliedNow, done_goes, applying_own, drawn_by}
use Rattle.afr_soundness.proofs.Deciding.Steps.{marked_none, locked_none}
use Rattle.afr_soundness.proofs.Deciding.Whose.{decides_exactly}
use Rattle.afr_soundness.proofs.Takers.Asked.{asked_are_members}
use Rattle.afr_soundness.proofs.Posted.{post_done_accuses}
use Rattle.afr_decisions.specs.Confirmed.{IsReported, IsConfirmedBy, is_marking, is_reporting, KeepsConfirmed, EveryConfirmationIsNoted}
use Rattle.afr_decisions.proofs.Noted.{is_report, handed_waits, handed_asked, report_noted, IsNotedNow, noted_from, noted_stays}

-- ---- stages

marks_first : (stage : Stage) → is_marking (passed stage) ≡ is_marking stage
marks_first (Locking cells shared next) = refl
marks_first other = refl

reports_behind : (stage : Stage) → is_reporting stage ≡ true → is_behind stage ≡ true
reports_behind (Posting u) h = refl
reports_behind (Settling u group adopts) h = refl
reports_behind other h = absurd (let e : false ≡ true = h in cc)

marks_behind : (stage : Stage) → is_marking stage ≡ true → is_behind stage ≡ true
marks_behind (Marking u) h = refl
marks_behind (Applying u) h = refl
marks_behind other h = absurd (let e : false ≡ true = h in cc)

marks_or_reports : (stage : Stage) → is_marking stage ≡ true → is_reporting stage ≡ true → ⊥
marks_or_reports (Marking u) h k = absurd (let e : false ≡ true = k in cc)
marks_or_reports (Applying u) h k = absurd (let e : false ≡ true = k in cc)
marks_or_reports other h k = absurd (let e : false ≡ true = h in cc)

reports_sends : (stage : Stage) → is_sending stage ≡ is_reporting stage
reports_sends (Posting u) = refl
reports_sends (Settling u group adopts) = refl
reports_sends other = refl

-- ---- a report, and the stage that asked for it

module _ (size : Size) (changes : ℕ → Change) where
  settles_in : (stage : Stage) (u : ℕ) (accused : Replicas) → IsSettlingBy size stage u accused → is_reporting stage ≡ true
  settles_in (Settling v group adopts) u accused h = refl
  settles_in other u accused h = absurd h

  pub report_stage : (own : Job) (stage : Stage) (k : ℕ) (ask : Ask) → is_report ask ≡ true → IsAskedBy size changes own stage k ask → is_reporting stage ≡ true
  report_stage own stage k (Post u cells accused) is h = ap is_reporting h.0
  report_stage own stage k (Settle u cells accused) is h = settles_in stage u accused h.0
  report_stage own stage k other is h = absurd (let e : false ≡ true = is in cc)

  fetches_not : (stage : Stage) (k : ℕ) (cell : Cell) → is_reporting stage ≡ true → IsFetching stage k cell → ⊥
  fetches_not (Copying run) k cell sends h = absurd (let e : false ≡ true = sends in cc)
  fetches_not other k cell sends h = h

  replaces_not : (stage : Stage) (k : ℕ) (cell : Cell) (found : Fetched) → is_reporting stage ≡ true → IsReplacing stage k cell found → ⊥
  replaces_not (Copying run) k cell found sends h = absurd (let e : false ≡ true = sends in cc)
  replaces_not other k cell found sends h = h

  clears_not : (stage : Stage) (cells : List Cell) (who : Replicas) → is_reporting stage ≡ true → IsClearing stage cells who → ⊥
  clears_not (Copying run) cells who sends h = absurd (let e : false ≡ true = sends in cc)
  clears_not other cells who sends h = h

  -- a stage that reports asks for reports alone
  pub asked_report : (own : Job) (stage : Stage) (k : ℕ) (ask : Ask) → is_reporting stage ≡ true → IsAskedBy size changes own stage k ask → is_report ask ≡ true
  asked_report own stage k (Lock shared cells) sends h = apart_bools sends (ap is_reporting h)
  asked_report own stage k Unlock sends h = apart_bools sends (ap is_reporting h)
  asked_report own stage k (Mark u cells) sends h = apart_bools sends (ap is_reporting h.0)
  asked_report own stage k (Op u op) sends (inl h) = apart_bools sends (ap is_reporting h.0)
  asked_report own stage k (Op u op) sends (inr h) = apart_bools sends (ap is_reporting h.0)
  asked_report own stage k (Post u cells accused) sends h = refl
  asked_report own stage k (Fetch cell) sends (inl h) = apart_bools sends (ap is_reporting h.0)
  asked_report own stage k (Fetch cell) sends (inr h) = absurd (fetches_not stage k cell sends h)
  asked_report own stage k (Replace cell found) sends h = absurd (replaces_not stage k cell found sends h)
  asked_report own stage k (Clear cells who) sends h = absurd (clears_not stage cells who sends h)
  asked_report own stage k (Settle u cells accused) sends h = refl
  asked_report own stage k Index sends h = apart_bools sends (ap is_reporting h)
  asked_report own stage k Open sends h = apart_bools sends (ap is_reporting h)
  asked_report own stage k Release sends h = absurd h
  asked_report own stage k OpenFirst sends h = absurd h

-- ---- a confirmation that is noted now

module _ (size : Size) (m : State) (r : IsReached size m) (step : Step) (p k : ℕ) (now : IsNotedNow m step p k) where
  pub now_reports : is_reporting (m.txns now.by.txn).stage ≡ true
  now_reports = report_stage size m.changes (m.txns now.by.txn).job (m.txns now.by.txn).stage k now.ask now.report (handed_asked size m r k now.by now.ask now.answer now.handed)

  pub now_behind : is_behind (m.txns now.by.txn).stage ≡ true
  now_behind = reports_behind (m.txns now.by.txn).stage now_reports

  pub now_one : 1 ≤ p
  now_one = subst (λ q. 1 ≤ q) (sym now.phase) (((decides_exactly size m r).transactions now.by.txn).one now_behind)

  pub now_waits : (m.txns now.by.txn).waits k ≡ true
  now_waits = handed_waits size m r k now.by now.ask now.answer now.handed

  -- of a transaction behind the lock phase
  pub now_txn : (t : ℕ) → (m.txns t).phase ≡ p → t ≡ now.by.txn
  now_txn t same = (keeps_phases size m r).apart t now.by.txn (subst (λ q. 1 ≤ q) (sym same) now_one) (same ∙ now.phase)

  reported_by : (stage : Stage) → (m.txns now.by.txn).stage ≡ stage → is_reporting stage ≡ true → IsReported size m.changes (phase_of m now.by.txn) k (phase_of m now.by.txn).decides
  reported_by (Posting u) is sends =
      let h : DecidesIn size m.changes (m.txns now.by.txn).work (Posting u) (phase_of m now.by.txn) = subst (λ s. DecidesIn size m.changes (m.txns now.by.txn).work s (phase_of m now.by.txn)) is ((decides_exactly size m r).transactions now.by.txn).decides in
      subst (IsReported size m.changes (phase_of m now.by.txn) k) (sym h.0) ((post_done_accuses size m r).posts now.by.txn u k is (inr now_waits), h.1)
  reported_by (Settling u group adopts) is sends =
      let h : (phase_of m now.by.txn).decides ≡ BySettles u group adopts = subst (λ s. DecidesIn size m.changes (m.txns now.by.txn).work s (phase_of m now.by.txn)) is ((decides_exactly size m r).transactions now.by.txn).decides in
      subst (IsReported size m.changes (phase_of m now.by.txn) k) (sym h)
      (subst (λ e. IsAccusedBy size m.changes e (phase_of m now.by.txn).accused) h ((decides_exactly size m r).accused (m.txns now.by.txn).phase (subst (λ q. 1 ≤ q) now.phase now_one) (phases_are_known size m r now.by.txn).low))
  reported_by other is sends = absurd (let e : false ≡ true = sends in cc)

  pub confirmed_now : IsConfirmedBy size m p k
  confirmed_now = record {
    reached = ap (λ q. (m.phases q).reached k) now.phase ∙ (asked_are_members size m r now.by.txn k now_behind now_waits).reached;
    reported = subst (λ q. IsReported size m.changes (m.phases q) k (m.phases q).decides) (sym now.phase) (reported_by (m.txns now.by.txn).stage refl now_reports);
  }

  -- its transaction is behind its posts
  pub now_unmarked : (t : ℕ) → (m.txns t).phase ≡ p → is_marking (m.txns t).stage ≡ true → ⊥
  now_unmarked t same marks = marks_or_reports (m.txns t).stage marks (ap (λ i. is_reporting (m.txns i).stage) (now_txn t same) ∙ now_reports)

-- ---- one step

module _ (size : Size) (m : State) (r : IsReached size m) (step : Step) (allowed : Allowed size m step) where
  abbrev new : State
  new = after size m step

  d : DecidesExactly size m
  d = decides_exactly size m r

  goes : PhasesGo m.ended m.phases (after size m step).phases
  goes = step_phases size m step

  -- what a lock phase decides stays once somebody confirmed
  module _ (p k : ℕ) (one : 1 ≤ p) (low : p ≤ m.ended) (h : IsConfirmedBy size m p k) (unmarked : (t : ℕ) → (m.txns t).phase ≡ p → is_marking (m.txns t).stage ≡ true → ⊥) where
    undecided : (t : ℕ) → p ≡ (m.txns t).phase → (phase_of m t).decides ≡ NoChange → ⊥
    undecided t at none = subst (IsReported size m.changes (m.phases p) k) (ap (λ q. (m.phases q).decides) at ∙ none) h.reported

    done_same : (u : ℕ) → IsMarkedIn m p u → (new.changes u).done ≡ (m.changes u).done
    done_same u mine = by_case (done_goes size m r d step allowed u mine.drawn) where
      by_case : ((new.changes u).done ≡ (m.changes u).done) ⊎ IsAppliedNow size m r d step allowed u → (new.changes u).done ≡ (m.changes u).done
      by_case (inl same) = same
      by_case (inr now) =
          let by : (m.changes u).by ≡ now.txn = (drawn_by size m r d step allowed now.txn u (applying_own size m r d step allowed now.txn u now.applies)).1 in
          absurd (unmarked now.txn (ap (λ i. (m.txns i).phase) (sym by ∙ mine.by) ∙ mine.phase) (ap is_marking now.applies))

    pub same_phase : SameDeciding (m.phases p) (new.phases p)
    same_phase = by_move (phase_moves size m step allowed p) where
      same : (q : Phase) → new.phases p ≡ q → q.decides ≡ (m.phases p).decides → q.accused ≡ (m.phases p).accused → SameDeciding (m.phases p) (new.phases p)
      same q is decides accused = record { decides = ap (λ (x : Phase). x.decides) is ∙ decides; accused = ap (λ (x : Phase). x.accused) is ∙ accused }

      by_move : PhaseMove size m step p (new.phases p) → SameDeciding (m.phases p) (new.phases p)
      by_move (PhaseMove.Same is) = same _ is refl refl
      by_move (PhaseMove.Reaches t step_is may at is) = absurd (omega (arith, at, low))
      by_move (PhaseMove.Marks t step_is may at is) = absurd (undecided t at (marked_none size m r d step allowed t may))
      by_move (PhaseMove.Posts t step_is may at is) = absurd (unmarked t (sym at) (ap is_marking may.turn))
      by_move (PhaseMove.SettlesAs t group adopts step_is may at is) = absurd (undecided t at (locked_none size m r d step allowed t may.turn))
      by_move (PhaseMove.Asks t j first ask step_is may w at is) = same _ is refl refl
      by_move (PhaseMove.Clears j by cells who answer run step_is handed stage at is) = same _ is refl refl
      by_move (PhaseMove.Confirms j by ask answer step_is handed at is) = same _ is refl refl

    reported_still : (e : Deciding) → (m.phases p).decides ≡ e → IsReported size m.changes (m.phases p) k e → IsReported size new.changes (new.phases p) k e
    reported_still NoChange is g = g
    reported_still (ByPosts u) is g =
        let done : (new.changes u).done ≡ (m.changes u).done = done_same u (subst (IsDecidedIn m p) is (d.decided p one low)) in
        (ap (λ (f : Replicas). f k) done ∙ g.0, λ i. ap (λ (f : Replicas). f i) same_phase.accused ∙ g.1 i ∙ ap (λ (f : Replicas). outside size f i) (sym done))
    reported_still (BySettles u group adopts) is g = λ i. ap (λ (f : Replicas). f i) same_phase.accused ∙ g i

    pub still_confirmed : IsConfirmedBy size new p k
    still_confirmed = record {
      reached = ap (λ (f : Replicas). f k) (goes.reached p low) ∙ h.reached;
      reported = subst (IsReported size new.changes (new.phases p) k) (sym same_phase.decides) (reported_still (m.phases p).decides refl h.reported);
    }

  module _ (was : KeepsConfirmed size m) where
    pub old_unmarked : (p k : ℕ) → (m.phases p).confirmed k ≡ true → (t : ℕ) → (m.txns t).phase ≡ p → is_marking (m.txns t).stage ≡ true → ⊥
    old_unmarked p k noted t same marks = apart_bools (ap (λ q. (m.phases q).confirmed k) same ∙ noted) (was.none_yet t k marks)

    phases_after : (p k : ℕ) → 1 ≤ p → (new.phases p).confirmed k ≡ true → PhaseFrom size m new p → IsConfirmedBy size new p k
    phases_after p k one noted (Now t may at is bricks) = absurd (let e : false ≡ true = sym (ap (λ (x : Phase). x.confirmed k) is) ∙ noted in cc)
    phases_after p k one noted (Old low) = by_case (noted_from size m step allowed p k low noted) where
      by_case : ((m.phases p).confirmed k ≡ true) ⊎ IsNotedNow m step p k → IsConfirmedBy size new p k
      by_case (inl old) = still_confirmed p k one low (was.phases p k one low old) (old_unmarked p k old)
      by_case (inr now) = still_confirmed p k one low (confirmed_now size m r step p k now) (now_unmarked size m r step p k now)

    -- ---- before its posts

    still_none : (p k : ℕ) → p ≤ m.ended → (m.phases p).confirmed k ≡ false → (IsNotedNow m step p k → ⊥) → (new.phases p).confirmed k ≡ false
    still_none p k low none not_now = by_case (is_or_not ((new.phases p).confirmed k)) where
      by_from : ((m.phases p).confirmed k ≡ true) ⊎ IsNotedNow m step p k → (new.phases p).confirmed k ≡ false
      by_from (inl old) = apart_bools old none
      by_from (inr now) = absurd (not_now now)

      by_case : ((new.phases p).confirmed k ≡ true) ⊎ ((new.phases p).confirmed k ≡ false) → (new.phases p).confirmed k ≡ false
      by_case (inl noted) = by_from (noted_from size m step allowed p k low noted)
      by_case (inr fine) = fine

    module _ (t k : ℕ) (marks : is_marking (new.txns t).stage ≡ true) where
      low : (m.txns t).phase ≤ m.ended
      low = (phases_are_known size m r t).low

      at_phase : (new.txns t).phase ≡ (m.txns t).phase → (m.phases (m.txns t).phase).confirmed k ≡ false → (IsNotedNow m step (m.txns t).phase k → ⊥) → (phase_of new t).confirmed k ≡ false
      at_phase same none not_now = ap (λ q. (new.phases q).confirmed k) same ∙ still_none (m.txns t).phase k low none not_now

      no_turn : (turn : Turn) → step ≡ Step.Turns t turn → IsNotedNow m step (m.txns t).phase k → ⊥
      no_turn turn is now = absurd (let e : Step.Turns t turn ≡ Step.HandsIn k = sym is ∙ now.is in cc)

      not_marking : (y : Txn) → new.txns t ≡ y → is_marking y.stage ≡ false → (phase_of new t).confirmed k ≡ false
      not_marking y is free = apart_bools marks (ap (λ (z : Txn). is_marking z.stage) is ∙ free)

      undecided_none : is_behind (m.txns t).stage ≡ true → (phase_of m t).decides ≡ NoChange → (phase_of m t).confirmed k ≡ false
      undecided_none behind none = by_case (is_or_not ((phase_of m t).confirmed k)) where
        by_case : ((phase_of m t).confirmed k ≡ true) ⊎ ((phase_of m t).confirmed k ≡ false) → (phase_of m t).confirmed k ≡ false
        by_case (inl noted) = absurd (subst (IsReported size m.changes (phase_of m t) k) none (was.phases (m.txns t).phase k ((d.transactions t).one behind) low noted).reported)
        by_case (inr fine) = fine

      by_move : TxnMove size m step t (new.txns t) → (phase_of new t).confirmed k ≡ false
      by_move (TxnMove.Goes quiet g) =
          let before : is_marking (m.txns t).stage ≡ true = sym (keeps_test is_marking marks_first (λ run later. refl) (m.txns t).stage (new.txns t).stage g.stage) ∙ marks in
          at_phase g.task.phase (was.none_yet t k before) (λ now. now_unmarked size m r step (m.txns t).phase k now t refl before)
      by_move (TxnMove.Begins graph own step_is at is) = not_marking _ is refl
      by_move (TxnMove.Locks Own step_is h is) = not_marking _ is refl
      by_move (TxnMove.Locks (Settles v) step_is h is) = not_marking _ is refl
      by_move (TxnMove.Reaches step_is h is) = not_marking _ is refl
      by_move (TxnMove.Marks step_is h is) = at_phase (ap (λ (z : Txn). z.phase) is) (undecided_none (copied_behind (m.txns t).stage h.copied) (marked_none size m r d step allowed t h)) (no_turn Turn.Marks step_is)
      by_move (TxnMove.Unsettles step_is h is) = at_phase (ap (λ (z : Txn). z.phase) is) (was.none_yet t k (ap is_marking h.turn)) (λ now. absurd (let e : Step.Unsettles t ≡ Step.HandsIn k = sym step_is ∙ now.is in cc))
      by_move (TxnMove.Posts step_is h is) = not_marking _ is refl
      by_move (TxnMove.SettlesAs group adopts step_is h is) = not_marking _ is refl
      by_move (TxnMove.Bears step_is h is) = not_marking _ is refl
      by_move (TxnMove.Copies run step_is h is) = not_marking _ is refl
      by_move (TxnMove.Clears step_is h is) = not_marking _ is refl
      by_move (TxnMove.Polls step_is h is) = not_marking _ is refl
      by_move (TxnMove.Unlocks step_is h is) = not_marking _ is refl
      by_move (TxnMove.Rests step_is h is) = not_marking _ is refl
      by_move (TxnMove.Ends step_is h is) = of_end is where
        of_end : new.txns t ≡ record (m.txns t) { stage = Over } → (phase_of new t).confirmed k ≡ false
        of_end e = not_marking _ e refl

      none_after : (phase_of new t).confirmed k ≡ false
      none_after = by_move (txn_moves size m step allowed t)

    -- ---- what a transaction counts is noted

    module _ (t k : ℕ) (sends : is_reporting (new.txns t).stage ≡ true) (counted : (new.txns t).confirmed k ≡ true) where
      by_now : is_reporting (m.txns t).stage ≡ true → IsConfirmedNow m step t k → (new.phases (m.txns t).phase).confirmed k ≡ true
      by_now sends_then c =
          let report : is_report c.ask ≡ true = asked_report size m.changes (m.txns c.by.txn).job (m.txns c.by.txn).stage k c.ask (ap (λ i. is_reporting (m.txns i).stage) c.txn ∙ sends_then) (handed_asked size m r k c.by c.ask c.answer c.handed) in
          ap (λ i. (new.phases (m.txns i).phase).confirmed k) (sym c.txn) ∙ ap (λ st. ((after size m st).phases (m.txns c.by.txn).phase).confirmed k) c.is ∙ report_noted size m k c.by c.ask c.answer c.handed report

      by_counted : is_reporting (m.txns t).stage ≡ true → ((m.txns t).confirmed k ≡ true) ⊎ IsConfirmedNow m step t k → (new.phases (m.txns t).phase).confirmed k ≡ true
      by_counted sends_then (inl old) = noted_stays size m step allowed (m.txns t).phase k (phases_are_known size m r t).low (was.noted t k sends_then old)
      by_counted sends_then (inr c) = by_now sends_then c

      by_send : SendMove size m step t (new.txns t).stage (new.txns t) → (phase_of new t).confirmed k ≡ true
      by_send (SendMove.Keeps same g) =
          let sends_then : is_reporting (m.txns t).stage ≡ true = ap is_reporting same ∙ sends in
          ap (λ q. (new.phases q).confirmed k) (phase_stays size m r step allowed t (reports_behind (m.txns t).stage sends_then)) ∙ by_counted sends_then (g.confirmed k counted)
      by_send (SendMove.Posts step_is h at is) = absurd (let e : false ≡ true = sym (ap (λ (z : Txn). z.confirmed k) is) ∙ counted in cc)
      by_send (SendMove.SettlesAs group adopts step_is h at is) = absurd (let e : false ≡ true = sym (ap (λ (z : Txn). z.confirmed k) is) ∙ counted in cc)

      noted_after : (phase_of new t).confirmed k ≡ true
      noted_after = by_send (send_moves size m step allowed t (new.txns t).stage (reports_sends (new.txns t).stage ∙ sends) refl)

-- ---- every list of steps

pub keeps_confirmed : EveryConfirmationIsNoted
keeps_confirmed size m IsReached.Start = record {
  phases = λ p k one low noted. absurd (let e : false ≡ true = noted in cc);
  none_yet = λ t k marks. refl;
  noted = λ t k sends counted. absurd (let e : false ≡ true = sends in cc);
}
keeps_confirmed size m (IsReached.Further old step reached allowed) =
    let was = keeps_confirmed size old reached in
    record {
      phases = λ p k one low noted. phases_after size old reached step allowed was p k one noted (phase_from size old step allowed p low);
      none_yet = λ t k marks. none_after size old reached step allowed was t k marks;
      noted = λ t k sends counted. noted_after size old reached step allowed was t k sends counted;
    }
