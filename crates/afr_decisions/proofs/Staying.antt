-- Who confirmed a post or settle of an unsettled change goes on accusing, over every list of steps.
use Rattle.std.proofs.Common.{◌≡◌, ◌∙◌, ℕ, ◌≤◌, Bool, true, false, refl, sym, ap, subst, ◌⊎◌, inl, inr, arith}
use Rattle.std.specs.Prelude.{List, [], ◌∷◌, ◌&&◌, not}
use Rattle.fop_types.specs.declared.cells.Cell.{Cell}
use Rattle.afr_machine.specs.Replicas.{Size, Replicas, outside}
use Rattle.afr_machine.specs.Touching.{has_cell}
use Rattle.afr_machine.specs.Copies.{Store}
use Rattle.afr_machine.specs.Requests.{Sender, Ask, Answer, Output}
use Rattle.afr_machine.specs.Requests.Ask.{Post, Clear, Settle}
use Rattle.afr_machine.specs.Requests.Answer.{Done}
use Rattle.afr_machine.specs.Bricks.{Brick}
use Rattle.afr_machine.specs.Changes.{is_unsettled}
use Rattle.afr_machine.specs.Changes.Verdict.{Drawn}
use Rattle.afr_machine.specs.Phases.{Phase, Deciding}
use Rattle.afr_machine.specs.Phases.Deciding.{NoChange, ByPosts, BySettles}
use Rattle.afr_machine.specs.Transactions.{Stage}
use Rattle.afr_machine.specs.Transactions.Stage.{Posting, Settling}
use Rattle.afr_machine.specs.States.{State, is_current, phase_of}
use Rattle.afr_machine.specs.Answering.{is_wanted, without_output, without_first_output}
use Rattle.afr_machine.specs.Steps.{Step, Allowed, MayUnsettle, after, IsReached, take_in_front}
use Rattle.afr_machine.specs.Moves.{BrickMove, IsTaken}
use Rattle.afr_machine.specs.Moves.BrickMove.{Stays, Takes, Hands, Serves, Refuses, GivesUp, Steers}
use Rattle.afr_machine.proofs.BrickMoves.{bricks_move}
use Rattle.afr_machine.proofs.Keeping.{taken_in_beside}
use Rattle.afr_machine.proofs.Tables.{at_same}
use Rattle.afr_laws.specs.Senders.{EachInput}
use Rattle.afr_laws.specs.Asking.{IsAskedBy, IsSettlingBy}
use Rattle.afr_laws.specs.Rows.{accuses_at, adds, pardons}
use Rattle.afr_laws.specs.OwnChanges.{was_unsettled}
use Rattle.afr_laws.proofs.Bools.{apart_bools, is_or_not, both, or_last}
use Rattle.afr_laws.proofs.Accusers.{accusers_follow}
use Rattle.afr_laws.proofs.Fresh.Known.{phases_are_known}
use Rattle.afr_laws.proofs.OwnChanges.Steps.{changes_are_own}
use Rattle.afr_laws.proofs.Copies.Served.{served_store, steered_store}
use Rattle.afr_laws.proofs.Overtaken.Steps.{PhaseFrom, phase_from}
use Rattle.afr_laws.proofs.Overtaken.Steps.PhaseFrom.{Old, Now}
use Rattle.afr_soundness.specs.Replies.{IsReplyIn}
use Rattle.afr_soundness.specs.Deciding.{IsMarkedIn, IsSettledIn, IsDecidedIn, IsAccusedBy, DecidesIn}
use Rattle.afr_soundness.specs.Later.{IsOf}
use Rattle.afr_soundness.specs.CopyApart.{IsCopyApart}
use Rattle.afr_soundness.specs.SettleDone.{ClearsNot, ShowsSettled}
use Rattle.afr_soundness.specs.Posted.{AccusesAll, ShowsPosted}
use Rattle.afr_soundness.proofs.PhaseMoves.{IsHandedIn}
use Rattle.afr_soundness.proofs.ChangeMoves.{cells_stay}
use Rattle.afr_soundness.proofs.Deciding.Whose.{decides_exactly}
use Rattle.afr_soundness.proofs.Takers.Asked.{asked_are_members}
use Rattle.afr_soundness.proofs.Replies.{done_is, reply_at}
use Rattle.afr_soundness.proofs.Unsettled.{UnsettledFrom, unsettled_from, drawn_from, becomes_own}
use Rattle.afr_soundness.proofs.Lines.{each_of}
use Rattle.afr_soundness.proofs.CopyApart.Steps.{keeps_copies_apart}
use Rattle.afr_soundness.proofs.Applied.{applied_holds}
use Rattle.afr_soundness.proofs.Posted.{post_done_accuses}
use Rattle.afr_soundness.proofs.SettleDone.{settle_done_accuses}
use Rattle.afr_decisions.specs.Confirmed.{IsReported, IsConfirmedBy, is_marking, is_reporting}
use Rattle.afr_decisions.specs.Settlings.{IsSettling}
use Rattle.afr_decisions.specs.Staying.{AccusesStaying, ConfirmedAccuse, EveryConfirmedAccuses}
use Rattle.afr_decisions.proofs.Noted.{is_report, handed_asked, IsNotedNow, noted_from}
use Rattle.afr_decisions.proofs.Confirmed.{keeps_confirmed, now_reports, now_behind, now_waits, confirmed_now, now_unmarked, same_phase, old_unmarked}
use Rattle.afr_decisions.proofs.Settlings.{settlings_stand}

-- ---- no clear takes the accusation back

module _ (size : Size) (m : State) (r : IsReached size m) (p u k : ℕ) (cell : Cell) (one : 1 ≤ p) (low : p ≤ m.ended) (unsettled : is_unsettled (m.changes u).verdict ≡ true) (c : IsConfirmedBy size m p k) (has : has_cell (m.changes u).cells cell ≡ true) where
  applied_unpardoned : (m.changes u).done k ≡ true → (i : ℕ) (ask : Ask) → IsCopyApart m k ask → pardons ask cell i ≡ false
  applied_unpardoned done i (Clear cells who) apart = by_case (is_or_not (has_cell cells cell)) where
    by_case : (has_cell cells cell ≡ true) ⊎ (has_cell cells cell ≡ false) → (has_cell cells cell && who i) ≡ false
    by_case (inl there) = apart_bools ((applied_holds size m r).done u k unsettled done cell has) ((apart u cell unsettled there has).copies cell has)
    by_case (inr other) = ap (λ b. b && who i) other
  applied_unpardoned done i other apart = refl

  settled_unpardoned : (i : ℕ) (ask : Ask) → ClearsNot cell ask → pardons ask cell i ≡ false
  settled_unpardoned i (Clear cells who) none = ap (λ b. b && who i) none
  settled_unpardoned i other none = refl

  unpardoned_by : (i : ℕ) (decides : Deciding) → (m.phases p).decides ≡ decides → IsOf u decides → IsReported size m.changes (m.phases p) k decides → EachInput (λ by ask. pardons ask cell i ≡ false) (m.bricks k).line
  unpardoned_by i NoChange is of h = absurd of
  unpardoned_by i (ByPosts v) is of h =
      each_of (λ by ask. IsCopyApart m k ask) (λ by ask. pardons ask cell i ≡ false) (λ by ask apart. applied_unpardoned (ap (λ n. (m.changes n).done k) (sym of) ∙ h.0) i ask apart) (m.bricks k).line ((keeps_copies_apart size m r).replaces k)
  unpardoned_by i (BySettles v group adopts) is of h =
      let s : IsSettling m p u group adopts = record { one = one; low = low; decides = is ∙ ap (λ n. BySettles n group adopts) of } in
      each_of (λ by ask. ClearsNot cell ask) (λ by ask. pardons ask cell i ≡ false) (λ by ask none. settled_unpardoned i ask none) (m.bricks k).line (((settlings_stand size m r p u group adopts s).unsettled unsettled).clears k cell c.reached has)

  pub unpardoned : (i : ℕ) → IsOf u (m.phases p).decides → EachInput (λ by ask. pardons ask cell i ≡ false) (m.bricks k).line
  unpardoned i of = unpardoned_by i (m.phases p).decides refl of c.reported

-- ---- whoever confirms now accuses

module _ (size : Size) (m : State) (r : IsReached size m) (step : Step) (p u k : ℕ) (now : IsNotedNow m step p k) (unsettled : is_unsettled (m.changes u).verdict ≡ true) where
  reply : IsReplyIn now.by now.ask now.answer (m.bricks k).outputs
  reply = subst (IsReplyIn now.by now.ask now.answer) (sym now.handed.front) (inl (refl, (refl, refl)))

  used : (m.txns now.by.txn).out k ≡ false
  used = (asked_are_members size m r now.by.txn k (now_behind size m r step p k now) (now_waits size m r step p k now)).not_out

  decides_in : (stage : Stage) → (m.txns now.by.txn).stage ≡ stage → DecidesIn size m.changes (m.txns now.by.txn).work stage (phase_of m now.by.txn)
  decides_in stage is = subst (λ s. DecidesIn size m.changes (m.txns now.by.txn).work s (phase_of m now.by.txn)) is ((decides_exactly size m r).transactions now.by.txn).decides

  posted : (v : ℕ) → (m.txns now.by.txn).stage ≡ Posting v → IsOf u (phase_of m now.by.txn).decides → AccusesAll m k (m.changes v).cells (outside size (m.changes v).done) → AccusesAll m k (m.changes u).cells (phase_of m now.by.txn).accused
  posted v is of h cell i has in_it =
      let same : v ≡ u = subst (IsOf u) (decides_in (Posting v) is).0 of in
      h cell i (ap (λ n. has_cell (m.changes n).cells cell) same ∙ has) (sym ((decides_in (Posting v) is).1 i) ∙ in_it)

  settled : (v : ℕ) (group : Replicas) (adopts : Bool) → (m.txns now.by.txn).stage ≡ Settling v group adopts → IsOf u (phase_of m now.by.txn).decides → AccusesAll m k (m.changes v).cells (outside size group) → AccusesAll m k (m.changes u).cells (phase_of m now.by.txn).accused
  settled v group adopts is of h cell i has in_it =
      let decides : (phase_of m now.by.txn).decides ≡ BySettles v group adopts = decides_in (Settling v group adopts) is in
      let same : v ≡ u = subst (IsOf u) decides of in
      let accused = subst (λ e. IsAccusedBy size m.changes e (phase_of m now.by.txn).accused) decides ((decides_exactly size m r).accused (m.txns now.by.txn).phase (((decides_exactly size m r).transactions now.by.txn).one (now_behind size m r step p k now)) (phases_are_known size m r now.by.txn).low) in
      h cell i (ap (λ n. has_cell (m.changes n).cells cell) same ∙ has) (sym (accused i) ∙ in_it)

  of_settle : (stage : Stage) → (m.txns now.by.txn).stage ≡ stage → (v : ℕ) (cells : List Cell) (accused : Replicas) → IsSettlingBy size stage v accused → ShowsSettled size m k now.by (Settle v cells accused) → IsOf u (phase_of m now.by.txn).decides → AccusesAll m k (m.changes u).cells (phase_of m now.by.txn).accused
  of_settle (Settling w group adopts) is v cells accused h shown of =
      let is_v : (m.txns now.by.txn).stage ≡ Settling v group adopts = is ∙ ap (λ n. Settling n group adopts) h.0 in
      let decides : (phase_of m now.by.txn).decides ≡ BySettles v group adopts = decides_in (Settling v group adopts) is_v in
      let same : v ≡ u = subst (IsOf u) decides of in
      settled v group adopts is_v of (shown now.handed.current group adopts is_v used (ap (λ n. is_unsettled (m.changes n).verdict) same ∙ unsettled))
  of_settle other is v cells accused h shown of = absurd h

  of_ask : (ask : Ask) → is_report ask ≡ true → IsAskedBy size m.changes (m.txns now.by.txn).job (m.txns now.by.txn).stage k ask → ShowsPosted size m k now.by ask → ShowsSettled size m k now.by ask → IsOf u (phase_of m now.by.txn).decides → AccusesAll m k (m.changes u).cells (phase_of m now.by.txn).accused
  of_ask (Post v cells accused) is asked post settle of =
      let same : v ≡ u = subst (IsOf u) (decides_in (Posting v) asked.0).0 of in
      posted v asked.0 of (post now.handed.current asked.0 used (ap (λ n. is_unsettled (m.changes n).verdict) same ∙ unsettled))
  of_ask (Settle v cells accused) is asked post settle of = of_settle (m.txns now.by.txn).stage refl v cells accused asked.0 settle of
  of_ask other is asked post settle of = absurd (let e : false ≡ true = is in cc)

  done_by : (ask : Ask) → is_report ask ≡ true → is_wanted ask now.answer ≡ true → now.answer ≡ Done
  done_by (Post v cells accused) is wanted = done_is now.answer wanted
  done_by (Settle v cells accused) is wanted = done_is now.answer wanted
  done_by other is wanted = absurd (let e : false ≡ true = is in cc)

  pub accuses_now : IsOf u (m.phases p).decides → AccusesAll m k (m.changes u).cells (m.phases p).accused
  accuses_now of =
      let done = done_by now.ask now.report now.handed.wanted in
      subst (λ q. AccusesAll m k (m.changes u).cells (m.phases q).accused) (sym now.phase)
      (of_ask now.ask now.report (handed_asked size m r k now.by now.ask now.answer now.handed)
      (reply_at (λ b a z. z ≡ Done → ShowsPosted size m k b a) now.by now.ask now.answer (m.bricks k).outputs ((post_done_accuses size m r).replies k) reply done)
      (reply_at (λ b a z. z ≡ Done → ShowsSettled size m k b a) now.by now.ask now.answer (m.bricks k).outputs ((settle_done_accuses size m r).replies k) reply done)
      (subst (λ q. IsOf u (m.phases q).decides) now.phase of))

-- what is handed in changes no store
front_bricks : (m : State) (k : ℕ) (os : List Output) → (take_in_front m k os).bricks ≡ m.bricks
front_bricks m k [] = refl
front_bricks m k (o ∷ os) = (taken_in_beside m k o).bricks

pub handed_store : (size : Size) (m : State) (k : ℕ) → ((after size m (Step.HandsIn k)).bricks k).store ≡ (m.bricks k).store
handed_store size m k =
    ap (λ (f : ℕ → Brick). (f k).store) (front_bricks (without_first_output m k) k (m.bricks k).outputs)
    ∙ ap (λ (b : Brick). b.store) (at_same m.bricks k (record (m.bricks k) { outputs = without_output (m.bricks k).outputs }))

-- ---- one step

module _ (size : Size) (m : State) (r : IsReached size m) (step : Step) (allowed : Allowed size m step) where
  abbrev new : State
  new = after size m step

  -- the accusation stays
  accuses_on : (k i : ℕ) (cell : Cell) → accuses_at (m.bricks k).store cell i ≡ true → EachInput (λ by ask. pardons ask cell i ≡ false) (m.bricks k).line → BrickMove (IsTaken m step k) (m.bricks k) (new.bricks k) → accuses_at (new.bricks k).store cell i ≡ true
  accuses_on k i cell was line (Serves by ask rest front would is) =
      ap (λ (b : Brick). accuses_at b.store cell i) is ∙ ap (λ (st : Store). accuses_at st cell i) (served_store (m.bricks k).power by ask (record (m.bricks k) { line = rest })) ∙ accusers_follow ask (m.bricks k).store cell i
      ∙ or_last (adds ask cell i) (accuses_at (m.bricks k).store cell i && not (pardons ask cell i))
      (both (accuses_at (m.bricks k).store cell i) (not (pardons ask cell i)) was (ap not (subst (EachInput (λ by a. pardons a cell i ≡ false)) front line).0))
  accuses_on k i cell was line (Stays is) = ap (λ (b : Brick). accuses_at b.store cell i) is ∙ was
  accuses_on k i cell was line (Takes inputs its is) = ap (λ (b : Brick). accuses_at b.store cell i) is ∙ was
  accuses_on k i cell was line (Hands first rest front is) = ap (λ (b : Brick). accuses_at b.store cell i) is ∙ was
  accuses_on k i cell was line (Refuses by ask answer rest front may_be refusal is) = ap (λ (b : Brick). accuses_at b.store cell i) is ∙ was
  accuses_on k i cell was line (GivesUp by ask rest front would is) = ap (λ (b : Brick). accuses_at b.store cell i) is ∙ was
  accuses_on k i cell was line (Steers control rest front is) =
      ap (λ (b : Brick). accuses_at b.store cell i) is ∙ ap (λ (st : Store). accuses_at st cell i) (steered_store control (record (m.bricks k) { line = rest })) ∙ was

  module _ (p u k i : ℕ) (cell : Cell) (one : 1 ≤ p) (of : IsOf u (new.phases p).decides) (unsettled : is_unsettled (new.changes u).verdict ≡ true) (has : has_cell (new.changes u).cells cell ≡ true) (in_it : (new.phases p).accused i ≡ true) where
    module _ (low : p ≤ m.ended) where
      -- a change whose posts or settles were confirmed was unsettled before
      before : (c : IsConfirmedBy size m p k) → ((t : ℕ) → (m.txns t).phase ≡ p → is_marking (m.txns t).stage ≡ true → ⊥) → UnsettledFrom size m r step allowed u → is_unsettled (m.changes u).verdict ≡ true
      before c unmarked (UnsettledFrom.Was h) = h
      before c unmarked (UnsettledFrom.Becomes t step_is h at) = absurd (by_deciding (m.phases p).decides refl (subst (IsOf u) (same_phase size m r step allowed p k one low c unmarked).decides of)) where
        own : ((m.txns t).own ≡ h.change) × ((1 ≤ h.change) × ((m.changes h.change).verdict ≡ Drawn))
        own = becomes_own size m r step allowed t h

        mine : (v : ℕ) → (m.phases p).decides ≡ ByPosts v → IsMarkedIn m p v
        mine v is = subst (IsDecidedIn m p) is ((decides_exactly size m r).decided p one low)

        by_txn : (m.changes h.change).by ≡ t
        by_txn = subst (λ n. (m.changes n).by ≡ t) own.0 (((changes_are_own size m r).own t).owns (subst (λ n. 1 ≤ n) (sym own.0) own.1.0)).by

        by_deciding : (decides : Deciding) → (m.phases p).decides ≡ decides → IsOf u decides → ⊥
        by_deciding NoChange is of1 = of1
        by_deciding (ByPosts v) is of1 =
            let owner : (m.phases p).by ≡ t = sym (mine v is).by ∙ ap (λ n. (m.changes n).by) (of1 ∙ at) ∙ by_txn in
            unmarked t (ap (λ n. (m.txns n).phase) (sym owner) ∙ (mine v is).phase) (ap is_marking h.turn)
        by_deciding (BySettles v group adopts) is of1 =
            let s : IsSettledIn m p v = subst (IsDecidedIn m p) is ((decides_exactly size m r).decided p one low) in
            apart_bools s.sent (ap (λ n. was_unsettled (m.changes n).verdict) (of1 ∙ at) ∙ ap was_unsettled own.1.1)

      module _ (c : IsConfirmedBy size m p k) (unmarked : (t : ℕ) → (m.txns t).phase ≡ p → is_marking (m.txns t).stage ≡ true → ⊥) where
        was_unsettled_then : is_unsettled (m.changes u).verdict ≡ true
        was_unsettled_then = before c unmarked (unsettled_from size m r step allowed u unsettled)

        pub of_then : IsOf u (m.phases p).decides
        of_then = subst (IsOf u) (same_phase size m r step allowed p k one low c unmarked).decides of

        accused_then : (m.phases p).accused i ≡ true
        accused_then = sym (ap (λ (f : Replicas). f i) (same_phase size m r step allowed p k one low c unmarked).accused) ∙ in_it

        has_then : has_cell (m.changes u).cells cell ≡ true
        has_then = sym (ap (λ cs. has_cell cs cell) (cells_stay size m step allowed u (drawn_from size m r step allowed u (UnsettledFrom.Was was_unsettled_then)))) ∙ has

        goes_on : AccusesStaying m k cell i → accuses_at (new.bricks k).store cell i ≡ true
        goes_on a = accuses_on k i cell a.accuses a.line (bricks_move size m step allowed k)

      by_old : ConfirmedAccuse m → (m.phases p).confirmed k ≡ true → accuses_at (new.bricks k).store cell i ≡ true
      by_old was noted =
          let c = (keeps_confirmed size m r).phases p k one low noted in
          let unmarked = old_unmarked size m r step allowed (keeps_confirmed size m r) p k noted in
          goes_on c unmarked (was p u k i cell one low (of_then c unmarked) (was_unsettled_then c unmarked) noted (has_then c unmarked) (accused_then c unmarked))

      by_now : IsNotedNow m step p k → accuses_at (new.bricks k).store cell i ≡ true
      by_now now =
          let c = confirmed_now size m r step p k now in
          let unmarked = now_unmarked size m r step p k now in
          ap (λ st. accuses_at ((after size m st).bricks k).store cell i) now.is ∙ ap (λ (s : Store). accuses_at s cell i) (handed_store size m k)
          ∙ accuses_now size m r step p u k now (was_unsettled_then c unmarked) (of_then c unmarked) cell i (has_then c unmarked) (accused_then c unmarked)

    accuses_after : ConfirmedAccuse m → (new.phases p).confirmed k ≡ true → PhaseFrom size m new p → accuses_at (new.bricks k).store cell i ≡ true
    accuses_after was noted (Now t may at is bricks) = absurd (let e : false ≡ true = sym (ap (λ (x : Phase). x.confirmed k) is) ∙ noted in cc)
    accuses_after was noted (Old low) = by_case (noted_from size m step allowed p k low noted) where
      by_case : ((m.phases p).confirmed k ≡ true) ⊎ IsNotedNow m step p k → accuses_at (new.bricks k).store cell i ≡ true
      by_case (inl old) = by_old low was old
      by_case (inr now) = by_now low now

-- ---- every list of steps

pub confirmed_accuse : EveryConfirmedAccuses
confirmed_accuse size m IsReached.Start = λ p u k i cell one low of unsettled noted. absurd (let e : false ≡ true = noted in cc)
confirmed_accuse size m (IsReached.Further old step reached allowed) = λ p u k i cell one low of unsettled noted has in_it.
    record {
      accuses = accuses_after size old reached step allowed p u k i cell one of unsettled has in_it (confirmed_accuse size old reached) noted (phase_from size old step allowed p low);
      line = unpardoned size (after size old step) (IsReached.Further old step reached allowed) p u k cell one low unsettled ((keeps_confirmed size (after size old step) (IsReached.Further old step reached allowed)).phases p k one low noted) has i of;
    }
