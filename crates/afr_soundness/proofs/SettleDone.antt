-- Who confirmed the settle of an unsettled change accuses whoever is outside the group, over every list of steps.
use Rattle.std.proofs.Common.{◌≡◌, ◌∙◌, ℕ, Bool, true, false, refl, sym, ap, subst, ◌⊎◌, inl, inr}
use Rattle.std.specs.Prelude.{List, ◌∷◌, ◌&&◌, not}
use Rattle.fop_types.specs.declared.cells.Cell.{Cell}
use Rattle.afr_machine.specs.Replicas.{Size, Replicas, outside}
use Rattle.afr_machine.specs.Touching.{has_cell}
use Rattle.afr_machine.specs.Copies.{Store}
use Rattle.afr_machine.specs.Requests.{Sender, Ask, Answer, Input}
use Rattle.afr_machine.specs.Requests.Ask.{Lock, Unlock, Mark, Op, Post, Fetch, Replace, Clear, Settle, Index, Open, Release, OpenFirst}
use Rattle.afr_machine.specs.Requests.Answer.{Done, Rows, Gone}
use Rattle.afr_machine.specs.Requests.Input.{Asked}
use Rattle.afr_machine.specs.Bricks.{Brick, stored_by}
use Rattle.afr_machine.specs.Changes.{is_unsettled}
use Rattle.afr_machine.specs.Transactions.{Stage, Txn}
use Rattle.afr_machine.specs.Transactions.Work.{Settles}
use Rattle.afr_machine.specs.Transactions.Stage.{Locking, Locked, Marking, Applying, Posting, Settling, Bearing, Polling, Unlocking}
use Rattle.afr_machine.specs.States.{State, is_current, phase_of}
use Rattle.afr_machine.specs.Answering.{is_wanted, is_single}
use Rattle.afr_machine.specs.Steps.{Step, Allowed, after, IsReached, IsRefusal}
use Rattle.afr_machine.specs.Moves.{BrickMove, IsTaken}
use Rattle.afr_machine.specs.Moves.BrickMove.{Stays, Takes, Hands, Serves, Refuses, GivesUp, Steers}
use Rattle.afr_machine.proofs.BrickMoves.{bricks_move}
use Rattle.afr_laws.specs.Senders.{EachInput}
use Rattle.afr_laws.specs.Numbered.{IsNumbered}
use Rattle.afr_laws.specs.Asking.{IsFetching, IsReplacing, IsClearing, IsSettlingBy, IsAskedBy}
use Rattle.afr_laws.specs.Rows.{accuses_at, adds, pardons}
use Rattle.afr_laws.specs.OwnChanges.{was_unsettled}
use Rattle.afr_laws.specs.Fresh.{is_behind, IsWorkOf}
use Rattle.afr_laws.proofs.Bools.{apart_bools, both, both_left, or_left, or_last}
use Rattle.afr_laws.proofs.Accusers.{accusers_follow}
use Rattle.afr_laws.proofs.Waiting.{waits_fit}
use Rattle.afr_laws.proofs.Fresh.Known.{phases_are_known}
use Rattle.afr_laws.proofs.Fresh.Steps.{step_phases}
use Rattle.afr_laws.proofs.Copies.Served.{served_store, steered_store}
use Rattle.afr_laws.proofs.Standing.Steps.{links_back}
use Rattle.afr_soundness.specs.Replies.{EachReply, IsReplyIn}
use Rattle.afr_soundness.specs.Posted.{AccusesAll}
use Rattle.afr_soundness.specs.SettleDone.{ClearsNot, ShowsSettled, SettleDoneAccuses, EverySettleDoneAccuses}
use Rattle.afr_soundness.proofs.ChangeMoves.{cells_stay}
use Rattle.afr_soundness.proofs.Takers.Asked.{asked_are_members}
use Rattle.afr_soundness.proofs.Replies.{done_is, reply_at, replies_of, HoldsOtherwise, move_replies, reply_numbered}
use Rattle.afr_soundness.proofs.Unsettled.{UnsettledFrom, unsettled_from, drawn_from, becomes_own, settled_was}
use Rattle.afr_soundness.proofs.Copied.Kept.{out_back}
use Rattle.afr_soundness.proofs.Copied.Steps.{asked_now}
use Rattle.afr_soundness.proofs.SettleLines.{settles_quietly}
use Rattle.afr_soundness.proofs.SendMoves.{IsConfirmedNow, SendMove, send_moves}
use Rattle.afr_soundness.proofs.States.{phase_stays}
use Rattle.afr_soundness.proofs.Posted.{front_numbered, front_asked}

abbrev is_settling : Stage → Bool
is_settling (Settling u group adopts) = true
is_settling other = false

-- what a transaction that settles asks for is a settle of the change, which accuses whoever is outside the group
record IsSettleOf (size : Size) (u : ℕ) (group : Replicas) (ask : Ask) : Type 0 where
  cells : List Cell
  is : ask ≡ Settle u cells (outside size group)

module _ (size : Size) (m : State) (r : IsReached size m) (step : Step) (allowed : Allowed size m step) where
  abbrev new : State
  new = after size m step

  -- ---- a transaction that settles

  module _ (t u : ℕ) (group : Replicas) (adopts : Bool) (settles : (m.txns t).stage ≡ Settling u group adopts) where
    work : (m.txns t).work ≡ Settles u
    work = subst (λ s. IsWorkOf s (m.txns t).work) settles (phases_are_known size m r t).work

    was_before : UnsettledFrom size m r step allowed u → is_unsettled (m.changes u).verdict ≡ true
    was_before (UnsettledFrom.Was h) = h
    was_before (UnsettledFrom.Becomes s step_is h at) = apart_bools (settled_was size m r t u work) (ap (λ n. was_unsettled (m.changes n).verdict) at ∙ ap was_unsettled (becomes_own size m r step allowed s h).1.1)

    before : is_unsettled (new.changes u).verdict ≡ true → is_unsettled (m.changes u).verdict ≡ true
    before unsettled = was_before (unsettled_from size m r step allowed u unsettled)

    no_settle : {A : Type 0} → (stage : Stage) → is_settling stage ≡ false → (m.txns t).stage ≡ stage → A
    no_settle stage free is = apart_bools (ap is_settling settles) (ap is_settling is ∙ free)

    same_settle : (v : ℕ) (cells : List Cell) (accused : Replicas) → IsSettlingBy size (Settling u group adopts) v accused → IsSettleOf size u group (Settle v cells accused)
    same_settle v cells accused h = record { cells = cells; is = ap (λ n. Settle n cells accused) (sym h.0) ∙ ap (Settle u cells) h.1 }

    is_settle : (k : ℕ) (ask : Ask) → IsAskedBy size m.changes (m.txns t).job (m.txns t).stage k ask → IsSettleOf size u group ask
    is_settle k (Lock shared cells) h = no_settle (Locking cells shared k) refl h
    is_settle k Unlock h = no_settle Unlocking refl h
    is_settle k (Mark v cells) h = no_settle (Marking v) refl h.0
    is_settle k (Op v op) (inl h) = no_settle (Applying v) refl h.0
    is_settle k (Op v op) (inr h) = no_settle Bearing refl h.0
    is_settle k (Post v cells accused) h = no_settle (Posting v) refl h.0
    is_settle k (Fetch cell) (inl h) = no_settle Locked refl h.0
    is_settle k (Fetch cell) (inr h) = absurd (subst (λ s. IsFetching s k cell) settles h)
    is_settle k (Replace cell found) h = absurd (subst (λ s. IsReplacing s k cell found) settles h)
    is_settle k (Clear cells who) h = absurd (subst (λ s. IsClearing s cells who) settles h)
    is_settle k (Settle v cells accused) h = same_settle v cells accused (subst (λ s. IsSettlingBy size s v accused) settles h.0)
    is_settle k Index h = no_settle Polling refl h
    is_settle k Open h = no_settle Polling refl h
    is_settle k Release h = absurd h
    is_settle k OpenFirst h = absurd h

    -- ---- accusations stay where no clear comes

    module _ (k : ℕ) (unsettled : is_unsettled (m.changes u).verdict ≡ true) (reached : (phase_of m t).reached k ≡ true) (accused : Replicas) (was : AccusesAll m k (m.changes u).cells accused) where
      unpardoned : (cell : Cell) (i : ℕ) → (ask : Ask) → ClearsNot cell ask → pardons ask cell i ≡ false
      unpardoned cell i (Clear cells who) none = ap (λ b. b && who i) none
      unpardoned cell i other none = refl

      kept : (cell : Cell) (i : ℕ) → has_cell (m.changes u).cells cell ≡ true → accused i ≡ true → BrickMove (IsTaken m step k) (m.bricks k) (new.bricks k) → accuses_at (new.bricks k).store cell i ≡ true
      kept cell i has in_it (Serves by ask rest front would is) =
          ap (λ (b : Brick). accuses_at b.store cell i) is ∙ ap (λ (st : Store). accuses_at st cell i) (served_store (m.bricks k).power by ask (record (m.bricks k) { line = rest })) ∙ accusers_follow ask (m.bricks k).store cell i
          ∙ or_last (adds ask cell i) (accuses_at (m.bricks k).store cell i && not (pardons ask cell i))
          (both (accuses_at (m.bricks k).store cell i) (not (pardons ask cell i)) (was cell i has in_it)
          (ap not (unpardoned cell i ask (subst (EachInput (λ by a. ClearsNot cell a)) front ((settles_quietly size m r).clears t u k cell (ap is_behind settles) work unsettled reached has)).0)))
      kept cell i has in_it (Stays is) = ap (λ (b : Brick). accuses_at b.store cell i) is ∙ was cell i has in_it
      kept cell i has in_it (Takes inputs its is) = ap (λ (b : Brick). accuses_at b.store cell i) is ∙ was cell i has in_it
      kept cell i has in_it (Hands first rest front is) = ap (λ (b : Brick). accuses_at b.store cell i) is ∙ was cell i has in_it
      kept cell i has in_it (Refuses by ask answer rest front may_be refusal is) = ap (λ (b : Brick). accuses_at b.store cell i) is ∙ was cell i has in_it
      kept cell i has in_it (GivesUp by ask rest front would is) = ap (λ (b : Brick). accuses_at b.store cell i) is ∙ was cell i has in_it
      kept cell i has in_it (Steers control rest front is) =
          ap (λ (b : Brick). accuses_at b.store cell i) is ∙ ap (λ (st : Store). accuses_at st cell i) (steered_store control (record (m.bricks k) { line = rest })) ∙ was cell i has in_it

      accuses_stay : AccusesAll new k (new.changes u).cells accused
      accuses_stay cell i has in_it = kept cell i (sym (ap (λ cs. has_cell cs cell) (cells_stay size m step allowed u (drawn_from size m r step allowed u (UnsettledFrom.Was unsettled)))) ∙ has) in_it (bricks_move size m step allowed k)

  module _ (was : SettleDoneAccuses size m) where
    -- ---- answers

    shows_on : (k : ℕ) (by : Sender) (ask : Ask) (answer : Answer) → IsReplyIn by ask answer (m.bricks k).outputs → (answer ≡ Done → ShowsSettled size m k by ask) → answer ≡ Done → ShowsSettled size new k by ask
    shows_on k by (Settle u cells accused) answer reply h done = λ current group adopts stage used unsettled.
        let n : IsNumbered m k by (Settle u cells accused) = reply_numbered size m r k by (Settle u cells accused) answer reply in
        let current_then = links_back size m step allowed k by.graph by.connection n.connection current in
        let used_then = out_back size m r step allowed by.txn n.begun k used in
        let a = asked_now size m r k by (Settle u cells accused) answer reply current_then used_then refl in
        of_move k by u cells accused group adopts current_then used_then a.waits unsettled (h done) (send_moves size m step allowed by.txn (Settling u group adopts) refl stage) where
          of_move : (k : ℕ) (by : Sender) (u : ℕ) (cells : List Cell) (accused group : Replicas) (adopts : Bool) → is_current (m.links k by.graph) by.connection ≡ true → (m.txns by.txn).out k ≡ false → (m.txns by.txn).waits k ≡ true → is_unsettled (new.changes u).verdict ≡ true →
              ShowsSettled size m k by (Settle u cells accused) → SendMove size m step by.txn (Settling u group adopts) (new.txns by.txn) → AccusesAll new k (new.changes u).cells (outside size group)
          of_move k by u cells accused group adopts current used waits unsettled h (SendMove.Keeps settles g) =
              accuses_stay by.txn u group adopts settles k (before by.txn u group adopts settles unsettled) (asked_are_members size m r by.txn k (ap is_behind settles) waits).reached (outside size group)
              (h current group adopts settles used (before by.txn u group adopts settles unsettled))
          of_move k by u cells accused group adopts current used waits unsettled h (SendMove.Posts step_is may at is) = absurd (let e : Settling u group adopts ≡ Posting may.change = at in cc)
          of_move k by u cells accused group adopts current used waits unsettled h (SendMove.SettlesAs other verdict step_is may at is) = apart_bools waits (may.answered.waits k (waits_fit size m r by.txn k waits).replica)
    shows_on k by other answer reply h done = tt

    -- a settle that is served now
    shows_now : (k : ℕ) (by : Sender) (ask : Ask) (rest : List Input) → (m.bricks k).line ≡ Asked by ask ∷ rest → (new.bricks k).store ≡ stored_by ask (m.bricks k).store → ShowsSettled size new k by ask
    shows_now k by (Settle u cells accused) rest front stored = λ current group adopts stage used unsettled.
        let number : IsNumbered m k by (Settle u cells accused) = front_numbered size m r step allowed k by (Settle u cells accused) rest front in
        let current_then = links_back size m step allowed k by.graph by.connection number.connection current in
        let used_then = out_back size m r step allowed by.txn number.begun k used in
        let a = front_asked size m r step allowed k by (Settle u cells accused) rest front current_then used_then refl in
        of_move k by u cells accused group adopts stored unsettled a (send_moves size m step allowed by.txn (Settling u group adopts) refl stage) where
          accuses_now : (k u : ℕ) (cells : List Cell) (accused group : Replicas) → (new.bricks k).store ≡ stored_by (Settle u cells accused) (m.bricks k).store → cells ≡ (new.changes u).cells → accused ≡ outside size group → AccusesAll new k (new.changes u).cells (outside size group)
          accuses_now k u cells accused group stored cells_are accused_are cell i has in_it =
              ap (λ (st : Store). accuses_at st cell i) stored ∙ accusers_follow (Settle u cells accused) (m.bricks k).store cell i
              ∙ or_left (has_cell cells cell && accused i) (accuses_at (m.bricks k).store cell i && not false)
              (both (has_cell cells cell) (accused i) (ap (λ cs. has_cell cs cell) cells_are ∙ has) (ap (λ (f : Replicas). f i) accused_are ∙ in_it))

          of_move : (k : ℕ) (by : Sender) (u : ℕ) (cells : List Cell) (accused group : Replicas) (adopts : Bool) → (new.bricks k).store ≡ stored_by (Settle u cells accused) (m.bricks k).store → is_unsettled (new.changes u).verdict ≡ true →
              IsAskedBy size m.changes (m.txns by.txn).job (m.txns by.txn).stage k (Settle u cells accused) → SendMove size m step by.txn (Settling u group adopts) (new.txns by.txn) → AccusesAll new k (new.changes u).cells (outside size group)
          of_move k by u cells accused group adopts stored unsettled a (SendMove.Keeps settles g) =
              let b : IsSettlingBy size (Settling u group adopts) u accused = subst (λ s. IsSettlingBy size s u accused) settles a.0 in
              accuses_now k u cells accused group stored (a.1 ∙ sym (cells_stay size m step allowed u (drawn_from size m r step allowed u (UnsettledFrom.Was (before by.txn u group adopts settles unsettled))))) b.1
          of_move k by u cells accused group adopts stored unsettled a (SendMove.Posts step_is may at is) = absurd (let e : Settling u group adopts ≡ Posting may.change = at in cc)
          of_move k by u cells accused group adopts stored unsettled a (SendMove.SettlesAs other verdict step_is may at is) = absurd (subst (λ s. IsSettlingBy size s u accused) may.turn a.0)
    shows_now k by other rest front stored = tt

    otherwise : (k : ℕ) → HoldsOtherwise (λ by ask answer. answer ≡ Done → ShowsSettled size (after size m step) k by ask)
    otherwise k = record {
      gone = λ by ask e. absurd (let no : Gone ≡ Done = e in cc);
      rows = λ by ask rows e. absurd (let no : Rows rows ≡ Done = e in cc);
      unlock = λ by done. tt;
      refused = λ by ask answer refusal e. absurd (subst IsRefusal e refusal);
    }

    replies_after : (k : ℕ) → EachReply (λ by ask answer. answer ≡ Done → ShowsSettled size new k by ask) (new.bricks k).outputs
    replies_after k =
        move_replies (λ by ask answer. answer ≡ Done → ShowsSettled size (after size m step) k by ask) (otherwise k) (IsTaken m step k) (m.bricks k) (new.bricks k) (λ by ask rest front stored done. shows_now k by ask rest front stored)
        (replies_of (λ by ask answer. answer ≡ Done → ShowsSettled size (after size m step) k by ask) (m.bricks k).outputs
        (λ by ask answer one done. shows_on k by ask answer one (reply_at (λ b a r. r ≡ Done → ShowsSettled size m k b a) by ask answer (m.bricks k).outputs (was.replies k) one) done))
        (bricks_move size m step allowed k)

    -- ---- who confirmed

    -- the answer is to a settle, and is handed in now
    handed_accuses : (t u k : ℕ) (group : Replicas) (adopts : Bool) → (m.txns t).stage ≡ Settling u group adopts → is_unsettled (m.changes u).verdict ≡ true → IsConfirmedNow m step t k → ((phase_of m t).reached k ≡ true) × AccusesAll m k (m.changes u).cells (outside size group)
    handed_accuses t u k group adopts settles unsettled c = of_settle (is_settle t u group adopts settles k c.ask asked) where
      settles_by : (m.txns c.by.txn).stage ≡ Settling u group adopts
      settles_by = ap (λ i. (m.txns i).stage) c.txn ∙ settles

      waits : (m.txns c.by.txn).waits k ≡ true
      waits = both_left ((m.txns c.by.txn).waits k) (is_single ((m.txns c.by.txn).flying k)) c.handed.awaited

      used : (m.txns c.by.txn).out k ≡ false
      used = (asked_are_members size m r c.by.txn k (ap is_behind settles_by) waits).not_out

      reply : IsReplyIn c.by c.ask c.answer (m.bricks k).outputs
      reply = subst (IsReplyIn c.by c.ask c.answer) (sym c.handed.front) (inl (refl, (refl, refl)))

      asked : IsAskedBy size m.changes (m.txns t).job (m.txns t).stage k c.ask
      asked = subst (λ i. IsAskedBy size m.changes (m.txns i).job (m.txns i).stage k c.ask) c.txn (asked_now size m r k c.by c.ask c.answer reply c.handed.current used c.plain).asked

      shown : c.answer ≡ Done → ShowsSettled size m k c.by c.ask
      shown = reply_at (λ b a z. z ≡ Done → ShowsSettled size m k b a) c.by c.ask c.answer (m.bricks k).outputs (was.replies k) reply

      of_settle : IsSettleOf size u group c.ask → ((phase_of m t).reached k ≡ true) × AccusesAll m k (m.changes u).cells (outside size group)
      of_settle p =
          let done : c.answer ≡ Done = done_is c.answer (sym (ap (λ a. is_wanted a c.answer) p.is) ∙ c.handed.wanted) in
          let s : ShowsSettled size m k c.by (Settle u p.cells (outside size group)) = subst (ShowsSettled size m k c.by) p.is (shown done) in
          (ap (λ i. (phase_of m i).reached k) (sym c.txn) ∙ (asked_are_members size m r c.by.txn k (ap is_behind settles_by) waits).reached, s c.handed.current group adopts settles_by used unsettled)

    confirmed_after : (t u k : ℕ) (group : Replicas) (adopts : Bool) → (new.txns t).stage ≡ Settling u group adopts → is_unsettled (new.changes u).verdict ≡ true → (new.txns t).confirmed k ≡ true → SendMove size m step t (Settling u group adopts) (new.txns t) →
        ((phase_of new t).reached k ≡ true) × AccusesAll new k (new.changes u).cells (outside size group)
    confirmed_after t u k group adopts stage unsettled confirmed (SendMove.Posts step_is h at is) = absurd (let e : Settling u group adopts ≡ Posting h.change = at in cc)
    confirmed_after t u k group adopts stage unsettled confirmed (SendMove.SettlesAs other verdict step_is h at is) = absurd (let e : false ≡ true = sym (ap (λ (z : Txn). z.confirmed k) is) ∙ confirmed in cc)
    confirmed_after t u k group adopts stage unsettled confirmed (SendMove.Keeps settles g) = by_case (g.confirmed k confirmed) where
      phase : (new.txns t).phase ≡ (m.txns t).phase
      phase = phase_stays size m r step allowed t (ap is_behind settles)

      goes_on : ((phase_of m t).reached k ≡ true) × AccusesAll m k (m.changes u).cells (outside size group) → ((phase_of new t).reached k ≡ true) × AccusesAll new k (new.changes u).cells (outside size group)
      goes_on h = (
        ap (λ p. (new.phases p).reached k) phase ∙ ap (λ (f : Replicas). f k) ((step_phases size m step).reached (m.txns t).phase (phases_are_known size m r t).low) ∙ h.0,
        accuses_stay t u group adopts settles k (before t u group adopts settles unsettled) h.0 (outside size group) h.1,
      )

      by_case : ((m.txns t).confirmed k ≡ true) ⊎ IsConfirmedNow m step t k → ((phase_of new t).reached k ≡ true) × AccusesAll new k (new.changes u).cells (outside size group)
      by_case (inl old) = goes_on (was.confirmed t u k group adopts settles (before t u group adopts settles unsettled) old)
      by_case (inr now) = goes_on (handed_accuses t u k group adopts settles (before t u group adopts settles unsettled) now)

-- ---- every list of steps

pub settle_done_accuses : EverySettleDoneAccuses
settle_done_accuses size m IsReached.Start = record {
  later = (settles_quietly size m IsReached.Start).later;
  clears = (settles_quietly size m IsReached.Start).clears;
  replies = λ k. tt;
  confirmed = λ t u k group adopts stage. absurd (let e : false ≡ true = ap is_settling stage in cc);
}
settle_done_accuses size m (IsReached.Further old step reached allowed) =
    let quiet = settles_quietly size m (IsReached.Further old step reached allowed) in
    record {
      later = quiet.later;
      clears = quiet.clears;
      replies = replies_after size old reached step allowed (settle_done_accuses size old reached);
      confirmed = λ t u k group adopts stage unsettled confirmed.
          confirmed_after size old reached step allowed (settle_done_accuses size old reached) t u k group adopts stage unsettled confirmed (send_moves size old step allowed t (Settling u group adopts) refl stage);
    }
