-- Who confirmed the post of an unsettled change accuses whoever has not applied it, over every list of steps.
use Rattle.std.proofs.Common.{◌≡◌, ◌∙◌, ℕ, ◌≤◌, Bool, true, false, refl, sym, ap, subst, ◌⊎◌, inl, inr, arith}
use Rattle.std.specs.Prelude.{if◌then◌else◌, List, ◌∷◌, ◌++◌, ◌&&◌, not}
use Rattle.std.proofs.lemmas.Bool.{eq-eqb}
use Rattle.fop_types.specs.declared.cells.Cell.{Cell}
use Rattle.afr_machine.specs.Replicas.{Size, Replicas, outside}
use Rattle.afr_machine.specs.Touching.{has_cell}
use Rattle.afr_machine.specs.Copies.{Store}
use Rattle.afr_machine.specs.Requests.{Sender, Ask, Answer, Input}
use Rattle.afr_machine.specs.Requests.Ask.{Lock, Unlock, Mark, Op, Post, Fetch, Replace, Clear, Settle, Index, Open, Release, OpenFirst}
use Rattle.afr_machine.specs.Requests.Answer.{Done, Rows, Gone}
use Rattle.afr_machine.specs.Requests.Input.{Asked}
use Rattle.afr_machine.specs.Bricks.{Brick, stored_by}
use Rattle.afr_machine.specs.Changes.{Change, is_unsettled}
use Rattle.afr_machine.specs.Transactions.{Stage, Txn}
use Rattle.afr_machine.specs.Transactions.Stage.{Locking, Locked, Marking, Applying, Posting, Settling, Bearing, Copying, Polling, Unlocking}
use Rattle.afr_machine.specs.States.{State, is_current}
use Rattle.afr_machine.specs.Sending.{MayAsk}
use Rattle.afr_machine.specs.Answering.{is_wanted, is_single}
use Rattle.afr_machine.specs.Steps.{Step, Allowed, after, IsReached, IsRefusal}
use Rattle.afr_machine.specs.Moves.{BrickMove, IsTaken}
use Rattle.afr_machine.specs.Moves.BrickMove.{Stays, Takes, Hands, Serves, Refuses, GivesUp, Steers}
use Rattle.afr_machine.proofs.BrickMoves.{bricks_move}
use Rattle.afr_laws.specs.Senders.{EachInput}
use Rattle.afr_laws.specs.Numbered.{IsNumbered}
use Rattle.afr_laws.specs.Flights.{is_mine, in_locks, in_line, in_outputs}
use Rattle.afr_laws.specs.Asking.{IsFetching, IsReplacing, IsClearing, IsSettlingBy, IsAskedBy}
use Rattle.afr_laws.specs.Rows.{accuses_at, adds, pardons}
use Rattle.afr_laws.specs.OwnChanges.{was_unsettled, IsOwnStage}
use Rattle.afr_laws.specs.Drawn.{change_in}
use Rattle.afr_laws.specs.Fresh.{is_behind}
use Rattle.afr_laws.proofs.Bools.{apart_bools, is_or_not, both, both_left, or_left, or_last}
use Rattle.afr_laws.proofs.Carry.{at_case}
use Rattle.afr_laws.proofs.Accusers.{accusers_follow}
use Rattle.afr_laws.proofs.Flying.{on_their_way}
use Rattle.afr_laws.proofs.Drawn.{changes_are_drawn}
use Rattle.afr_laws.proofs.Waiting.{waits_fit}
use Rattle.afr_laws.proofs.Heard.{is_open_first}
use Rattle.afr_laws.proofs.OwnChanges.Steps.{changes_are_own}
use Rattle.afr_laws.proofs.Copies.Served.{served_store, steered_store}
use Rattle.afr_laws.proofs.Standing.Steps.{links_back}
use Rattle.afr_soundness.specs.Replies.{EachReply, IsReplyIn}
use Rattle.afr_soundness.specs.CopyApart.{IsCopyApart}
use Rattle.afr_soundness.specs.Posted.{PostsGoToTheApplied, AccusesAll, ShowsPosted, PostDoneAccuses, EveryPostDoneAccuses}
use Rattle.afr_soundness.proofs.ChangeMoves.{ChangeMove, change_moves, cells_stay}
use Rattle.afr_soundness.proofs.Waits.{WaitsFrom, waits_from}
use Rattle.afr_soundness.proofs.Waits.WaitsFrom.{Before}
use Rattle.afr_soundness.proofs.Deciding.Kept.{posting_own, posting_done, drawn_by}
use Rattle.afr_soundness.proofs.Deciding.Whose.{decides_exactly}
use Rattle.afr_soundness.proofs.Takers.Asked.{asked_are_members}
use Rattle.afr_soundness.proofs.Replies.{done_is, reply_at, replies_of, HoldsOtherwise, move_replies, reply_numbered}
use Rattle.afr_soundness.proofs.Unsettled.{UnsettledFrom, unsettled_from, becomes_own}
use Rattle.afr_soundness.proofs.Copied.Lines.{AllAsks, all_right, all_asked}
use Rattle.afr_soundness.proofs.Copied.Kept.{out_back}
use Rattle.afr_soundness.proofs.Copied.Steps.{asked_now}
use Rattle.afr_soundness.proofs.CopyApart.Steps.{keeps_copies_apart}
use Rattle.afr_soundness.proofs.Applied.{applied_holds}
use Rattle.afr_soundness.proofs.SendMoves.{IsConfirmedNow, SendMove, send_moves}

abbrev is_posting : Stage → Bool
is_posting (Posting u) = true
is_posting other = false

-- what a transaction that posts asks for is a post of its change
record IsPostOf (u : ℕ) (ask : Ask) : Type 0 where
  cells : List Cell
  accused : Replicas
  is : ask ≡ Post u cells accused

module _ (size : Size) (m : State) (r : IsReached size m) (step : Step) (allowed : Allowed size m step) where
  abbrev new : State
  new = after size m step

  next : IsReached size (after size m step)
  next = IsReached.Further m step r allowed

  -- ---- the change of a transaction that posts

  module _ (t u : ℕ) (posts : (m.txns t).stage ≡ Posting u) where
    drawn : u ≤ m.drawn
    drawn = (drawn_by size m r (decides_exactly size m r) step allowed t u (posting_own size m r (decides_exactly size m r) step allowed t u posts)).0

    sent : was_unsettled (m.changes u).verdict ≡ true
    sent = (subst (λ s. IsOwnStage m.changes (m.txns t).own s) posts ((changes_are_own size m r).own t).stage).1.1

    -- nobody applies it any more
    same_done : (new.changes u).done ≡ (m.changes u).done
    same_done = posting_done size m r (decides_exactly size m r) step allowed t u posts

    was_before : UnsettledFrom size m r step allowed u → is_unsettled (m.changes u).verdict ≡ true
    was_before (UnsettledFrom.Was h) = h
    was_before (UnsettledFrom.Becomes s step_is h at) = apart_bools sent (ap (λ n. was_unsettled (m.changes n).verdict) at ∙ ap was_unsettled (becomes_own size m r step allowed s h).1.1)

    before : is_unsettled (new.changes u).verdict ≡ true → is_unsettled (m.changes u).verdict ≡ true
    before unsettled = was_before (unsettled_from size m r step allowed u unsettled)

    no_post : {A : Type 0} → (stage : Stage) → is_posting stage ≡ false → (m.txns t).stage ≡ stage → A
    no_post stage free is = apart_bools (ap is_posting posts) (ap is_posting is ∙ free)

    -- a post goes to a brick that was left
    post_left : (k : ℕ) (ask : Ask) → MayAsk size m t k ask → (m.txns t).left k ≡ true
    post_left k (Lock shared cells) h = no_post (Locking cells shared k) refl h.turn
    post_left k Unlock h = no_post Unlocking refl h.turn
    post_left k (Mark v cells) h = no_post (Marking v) refl h.turn
    post_left k (Op v op) (inl h) = no_post (Applying v) refl h.turn
    post_left k (Op v op) (inr h) = no_post Bearing refl h.turn
    post_left k (Post v cells accused) h = h.next.is_left
    post_left k (Fetch cell) (inl h) = no_post Locked refl h.turn
    post_left k (Fetch cell) (inr h) = no_post (Copying h.run) refl h.turn
    post_left k (Replace cell found) h = no_post (Copying h.run) refl h.turn
    post_left k (Clear cells who) h = no_post (Copying h.run) refl h.turn
    post_left k (Settle v cells accused) h = no_post (Settling v h.group h.adopts) refl h.turn
    post_left k Index h = no_post Polling refl h.poll.turn
    post_left k Open h = no_post Polling refl h.poll.turn
    post_left k Release h = absurd h
    post_left k OpenFirst h = absurd h

    number : (v : ℕ) → Posting u ≡ Posting v → v ≡ u
    number v e = cc

    is_post : (k : ℕ) (ask : Ask) → IsAskedBy size m.changes (m.txns t).job (m.txns t).stage k ask → IsPostOf u ask
    is_post k (Lock shared cells) h = no_post (Locking cells shared k) refl h
    is_post k Unlock h = no_post Unlocking refl h
    is_post k (Mark v cells) h = no_post (Marking v) refl h.0
    is_post k (Op v op) (inl h) = no_post (Applying v) refl h.0
    is_post k (Op v op) (inr h) = no_post Bearing refl h.0
    is_post k (Post v cells accused) h = let e = number v (sym posts ∙ h.0) in record { cells = cells; accused = accused; is = ap (λ n. Post n cells accused) e }
    is_post k (Fetch cell) (inl h) = no_post Locked refl h.0
    is_post k (Fetch cell) (inr h) = absurd (subst (λ s. IsFetching s k cell) posts h)
    is_post k (Replace cell found) h = absurd (subst (λ s. IsReplacing s k cell found) posts h)
    is_post k (Clear cells who) h = absurd (subst (λ s. IsClearing s cells who) posts h)
    is_post k (Settle v cells accused) h = absurd (subst (λ s. IsSettlingBy size s v accused) posts h.0)
    is_post k Index h = no_post Polling refl h
    is_post k Open h = no_post Polling refl h
    is_post k Release h = absurd h
    is_post k OpenFirst h = absurd h

  done_grows : (u k : ℕ) → u ≤ m.drawn → (m.changes u).done k ≡ true → (new.changes u).done k ≡ true
  done_grows u k low h = by_case (change_moves size m step allowed u) where
    by_case : ChangeMove size m step u (new.changes u) → (new.changes u).done k ≡ true
    by_case (ChangeMove.Same is) = ap (λ (c : Change). c.done k) is ∙ h
    by_case (ChangeMove.Marks t step_is may at is) = absurd (omega (arith, at, low))
    by_case (ChangeMove.Unsettles t step_is may at is) = ap (λ (c : Change). c.done k) is ∙ h
    by_case (ChangeMove.Applies j by v op answer step_is handed stage is) = ap (λ (c : Change). c.done k) is ∙ at_case (λ i (b : Bool). (m.changes u).done i ≡ true → b ≡ true) (m.changes u).done j true (λ e. refl) k (λ ne e. e) h
    by_case (ChangeMove.Decides t step_is may at unsettled is) = ap (λ (c : Change). c.done k) is ∙ h

  -- ---- accusations stay where the change was applied

  module _ (u k : ℕ) (unsettled : is_unsettled (m.changes u).verdict ≡ true) (done : (m.changes u).done k ≡ true) (accused : Replicas) (was : AccusesAll m k (m.changes u).cells accused) where
    -- no clear over a cell of the change comes there
    unpardoned : (cell : Cell) (i : ℕ) → has_cell (m.changes u).cells cell ≡ true → (ask : Ask) → IsCopyApart m k ask → pardons ask cell i ≡ false
    unpardoned cell i has (Clear cells who) apart = by_case (is_or_not (has_cell cells cell)) where
      by_case : (has_cell cells cell ≡ true) ⊎ (has_cell cells cell ≡ false) → (has_cell cells cell && who i) ≡ false
      by_case (inl there) = apart_bools ((applied_holds size m r).done u k unsettled done cell has) ((apart u cell unsettled there has).copies cell has)
      by_case (inr other) = ap (λ b. b && who i) other
    unpardoned cell i has other apart = refl

    kept : (cell : Cell) (i : ℕ) → has_cell (m.changes u).cells cell ≡ true → accused i ≡ true → BrickMove (IsTaken m step k) (m.bricks k) (new.bricks k) → accuses_at (new.bricks k).store cell i ≡ true
    kept cell i has in_it (Serves by ask rest front would is) =
        ap (λ (b : Brick). accuses_at b.store cell i) is ∙ ap (λ (st : Store). accuses_at st cell i) (served_store (m.bricks k).power by ask (record (m.bricks k) { line = rest })) ∙ accusers_follow ask (m.bricks k).store cell i
        ∙ or_last (adds ask cell i) (accuses_at (m.bricks k).store cell i && not (pardons ask cell i))
        (both (accuses_at (m.bricks k).store cell i) (not (pardons ask cell i)) (was cell i has in_it) (ap not (unpardoned cell i has ask (subst (EachInput (λ by a. IsCopyApart m k a)) front ((keeps_copies_apart size m r).replaces k)).0)))
    kept cell i has in_it (Stays is) = ap (λ (b : Brick). accuses_at b.store cell i) is ∙ was cell i has in_it
    kept cell i has in_it (Takes inputs its is) = ap (λ (b : Brick). accuses_at b.store cell i) is ∙ was cell i has in_it
    kept cell i has in_it (Hands first rest front is) = ap (λ (b : Brick). accuses_at b.store cell i) is ∙ was cell i has in_it
    kept cell i has in_it (Refuses by ask answer rest front may_be refusal is) = ap (λ (b : Brick). accuses_at b.store cell i) is ∙ was cell i has in_it
    kept cell i has in_it (GivesUp by ask rest front would is) = ap (λ (b : Brick). accuses_at b.store cell i) is ∙ was cell i has in_it
    kept cell i has in_it (Steers control rest front is) =
        ap (λ (b : Brick). accuses_at b.store cell i) is ∙ ap (λ (st : Store). accuses_at st cell i) (steered_store control (record (m.bricks k) { line = rest })) ∙ was cell i has in_it

    accuses_stay : AccusesAll new k (m.changes u).cells accused
    accuses_stay cell i has in_it = kept cell i has in_it (bricks_move size m step allowed k)

  -- of a transaction that posts, to the cells and the set as they are now
  renewed : (t u k : ℕ) → (m.txns t).stage ≡ Posting u → AccusesAll new k (m.changes u).cells (outside size (m.changes u).done) → AccusesAll new k (new.changes u).cells (outside size (new.changes u).done)
  renewed t u k posts h = subst (λ cs. AccusesAll (after size m step) k cs (outside size (new.changes u).done)) (sym (cells_stay size m step allowed u (drawn t u posts)))
      (subst (λ (d : Replicas). AccusesAll (after size m step) k (m.changes u).cells (outside size d)) (sym (same_done t u posts)) h)

  -- ---- the front of a line

  pub front_numbered : (k : ℕ) (by : Sender) (ask : Ask) (rest : List Input) → (m.bricks k).line ≡ Asked by ask ∷ rest → IsNumbered m k by ask
  front_numbered k by ask rest front = (subst (EachInput (IsNumbered m k)) front ((on_their_way size m r).numbered k).line).0

  -- the front of the line is one of the requests on their way
  module _ (k : ℕ) (by : Sender) (ask : Ask) (rest : List Input) (front : (m.bricks k).line ≡ Asked by ask ∷ rest) (current : is_current (m.links k by.graph) by.connection ≡ true) (used : (m.txns by.txn).out k ≡ false) where
    abbrev mine : Sender → Bool
    mine = is_mine by.txn (m.links k (m.txns by.txn).graph)

    abbrev Phased : Ask → Type 0
    Phased a = is_open_first a ≡ false → IsAskedBy size m.changes (m.txns by.txn).job (m.txns by.txn).stage k a

    own : is_mine by.txn (m.links k (m.txns by.txn).graph) by ≡ true
    own = both _ _ (eq-eqb by.txn by.txn refl) (ap (λ g. is_current (m.links k g) by.connection) (sym (front_numbered k by ask rest front).graph) ∙ current)

    of_line : AllAsks Phased (in_line (is_mine by.txn (m.links k (m.txns by.txn).graph)) (m.bricks k).line)
    of_line =
        all_right Phased (in_locks mine (m.bricks k).waiting) (in_line mine (m.bricks k).line)
        (all_right Phased (in_outputs mine (m.bricks k).outputs) (in_locks mine (m.bricks k).waiting ++ in_line mine (m.bricks k).line)
        (subst (AllAsks Phased) (sym ((on_their_way size m r).known by.txn k)) (all_asked size m r by.txn k used)))

    pub front_asked : is_open_first ask ≡ false → IsAskedBy size m.changes (m.txns by.txn).job (m.txns by.txn).stage k ask
    front_asked plain = (subst (λ b. AllAsks Phased (if b then ask ∷ in_line mine rest else in_line mine rest)) own (subst (λ l. AllAsks Phased (in_line mine l)) front of_line)).0 plain

  module _ (was : PostDoneAccuses size m) where
    -- ---- whom posts go to

    posts_after : PostsGoToTheApplied new
    posts_after t u k stage asks = by_move (send_moves size m step allowed t (Posting u) refl stage) where
      by_waits : (m.txns t).stage ≡ Posting u → WaitsFrom size m step t k (new.txns t) → (m.changes u).done k ≡ true
      by_waits posts (Before w same on) = was.posts t u k posts (inr w)
      by_waits posts (WaitsFrom.Asked first ask step_is may same on) = was.posts t u k posts (inl (post_left t u posts k ask may))

      by_move : SendMove size m step t (Posting u) (new.txns t) → (new.changes u).done k ≡ true
      by_move (SendMove.Keeps posts g) = done_grows u k (drawn t u posts) (by_ask asks) where
        by_ask : ((new.txns t).left k ≡ true) ⊎ ((new.txns t).waits k ≡ true) → (m.changes u).done k ≡ true
        by_ask (inl left) = was.posts t u k posts (inl (g.left k left))
        by_ask (inr waits) = by_waits posts (waits_from size m (waits_fit size m r) step allowed t k waits)
      by_move (SendMove.SettlesAs group adopts step_is h at is) = absurd (let e : Posting u ≡ Settling h.change group adopts = at in cc)
      by_move (SendMove.Posts step_is h stage_is is) = by_ask asks where
        at : u ≡ h.change
        at = same_change h.change stage_is where
          same_change : (v : ℕ) → Posting u ≡ Posting v → u ≡ v
          same_change v e = cc

        low : h.change ≤ m.drawn
        low = subst (λ s. change_in s ≤ m.drawn) h.turn ((changes_are_drawn size m r).names t).stage

        by_ask : ((new.txns t).left k ≡ true) ⊎ ((new.txns t).waits k ≡ true) → (new.changes u).done k ≡ true
        by_ask (inl left) = done_grows u k (subst (λ n. n ≤ m.drawn) (sym at) low) (ap (λ n. (m.changes n).done k) at ∙ sym (ap (λ (z : Txn). z.left k) is) ∙ left)
        by_ask (inr waits) = let w : (m.txns t).waits k ≡ true = sym (ap (λ (z : Txn). z.waits k) is) ∙ waits in apart_bools w (h.answered.waits k (waits_fit size m r t k w).replica)

    -- ---- answers

    shows_on : (k : ℕ) (by : Sender) (ask : Ask) (answer : Answer) → IsReplyIn by ask answer (m.bricks k).outputs → (answer ≡ Done → ShowsPosted size m k by ask) → answer ≡ Done → ShowsPosted size new k by ask
    shows_on k by (Post u cells accused) answer reply h done = λ current stage used unsettled.
        let n : IsNumbered m k by (Post u cells accused) = reply_numbered size m r k by (Post u cells accused) answer reply in
        let current_then = links_back size m step allowed k by.graph by.connection n.connection current in
        let used_then = out_back size m r step allowed by.txn n.begun k used in
        let a = asked_now size m r k by (Post u cells accused) answer reply current_then used_then refl in
        let posts = a.asked.0 in
        let before_then = before by.txn u posts unsettled in
        renewed by.txn u k posts (accuses_stay u k before_then (was.posts by.txn u k posts (inr a.waits)) (outside size (m.changes u).done) (h done current_then posts used_then before_then))
    shows_on k by other answer reply h done = tt

    -- a post that is served now
    shows_now : (k : ℕ) (by : Sender) (ask : Ask) (rest : List Input) → (m.bricks k).line ≡ Asked by ask ∷ rest → (new.bricks k).store ≡ stored_by ask (m.bricks k).store → ShowsPosted size new k by ask
    shows_now k by (Post u cells accused) rest front stored = λ current stage used unsettled.
        let number : IsNumbered m k by (Post u cells accused) = front_numbered k by (Post u cells accused) rest front in
        let current_then = links_back size m step allowed k by.graph by.connection number.connection current in
        let used_then = out_back size m r step allowed by.txn number.begun k used in
        let a = front_asked k by (Post u cells accused) rest front current_then used_then refl in
        renewed by.txn u k a.0 (accuses_now k u cells accused stored a.1.0 a.1.1) where
          accuses_now : (k u : ℕ) (cells : List Cell) (accused : Replicas) → (new.bricks k).store ≡ stored_by (Post u cells accused) (m.bricks k).store → cells ≡ (m.changes u).cells → accused ≡ outside size (m.changes u).done → AccusesAll new k (m.changes u).cells (outside size (m.changes u).done)
          accuses_now k u cells accused stored cells_are accused_are cell i has in_it =
              ap (λ (st : Store). accuses_at st cell i) stored ∙ accusers_follow (Post u cells accused) (m.bricks k).store cell i
              ∙ or_left (has_cell cells cell && accused i) (accuses_at (m.bricks k).store cell i && not false)
              (both (has_cell cells cell) (accused i) (ap (λ cs. has_cell cs cell) cells_are ∙ has) (ap (λ (f : Replicas). f i) accused_are ∙ in_it))
    shows_now k by other rest front stored = tt

    otherwise : (k : ℕ) → HoldsOtherwise (λ by ask answer. answer ≡ Done → ShowsPosted size (after size m step) k by ask)
    otherwise k = record {
      gone = λ by ask e. absurd (let no : Gone ≡ Done = e in cc);
      rows = λ by ask rows e. absurd (let no : Rows rows ≡ Done = e in cc);
      unlock = λ by done. tt;
      refused = λ by ask answer refusal e. absurd (subst IsRefusal e refusal);
    }

    replies_after : (k : ℕ) → EachReply (λ by ask answer. answer ≡ Done → ShowsPosted size new k by ask) (new.bricks k).outputs
    replies_after k =
        move_replies (λ by ask answer. answer ≡ Done → ShowsPosted size (after size m step) k by ask) (otherwise k) (IsTaken m step k) (m.bricks k) (new.bricks k) (λ by ask rest front stored done. shows_now k by ask rest front stored)
        (replies_of (λ by ask answer. answer ≡ Done → ShowsPosted size (after size m step) k by ask) (m.bricks k).outputs
        (λ by ask answer one done. shows_on k by ask answer one (reply_at (λ b a r. r ≡ Done → ShowsPosted size m k b a) by ask answer (m.bricks k).outputs (was.replies k) one) done))
        (bricks_move size m step allowed k)

    -- ---- who confirmed

    -- the answer is to a post, and is handed in now
    handed_accuses : (t u k : ℕ) → (m.txns t).stage ≡ Posting u → is_unsettled (m.changes u).verdict ≡ true → IsConfirmedNow m step t k → ((m.changes u).done k ≡ true) × AccusesAll m k (m.changes u).cells (outside size (m.changes u).done)
    handed_accuses t u k posts unsettled c = of_post (is_post t u posts k c.ask asked) where
      posts_by : (m.txns c.by.txn).stage ≡ Posting u
      posts_by = ap (λ i. (m.txns i).stage) c.txn ∙ posts

      waits : (m.txns c.by.txn).waits k ≡ true
      waits = both_left ((m.txns c.by.txn).waits k) (is_single ((m.txns c.by.txn).flying k)) c.handed.awaited

      used : (m.txns c.by.txn).out k ≡ false
      used = (asked_are_members size m r c.by.txn k (ap is_behind posts_by) waits).not_out

      reply : IsReplyIn c.by c.ask c.answer (m.bricks k).outputs
      reply = subst (IsReplyIn c.by c.ask c.answer) (sym c.handed.front) (inl (refl, (refl, refl)))

      asked : IsAskedBy size m.changes (m.txns t).job (m.txns t).stage k c.ask
      asked = subst (λ i. IsAskedBy size m.changes (m.txns i).job (m.txns i).stage k c.ask) c.txn (asked_now size m r k c.by c.ask c.answer reply c.handed.current used c.plain).asked

      shown : c.answer ≡ Done → ShowsPosted size m k c.by c.ask
      shown = reply_at (λ b a z. z ≡ Done → ShowsPosted size m k b a) c.by c.ask c.answer (m.bricks k).outputs (was.replies k) reply

      of_post : IsPostOf u c.ask → ((m.changes u).done k ≡ true) × AccusesAll m k (m.changes u).cells (outside size (m.changes u).done)
      of_post p =
          let done : c.answer ≡ Done = done_is c.answer (sym (ap (λ a. is_wanted a c.answer) p.is) ∙ c.handed.wanted) in
          let s : ShowsPosted size m k c.by (Post u p.cells p.accused) = subst (ShowsPosted size m k c.by) p.is (shown done) in
          (was.posts t u k posts (inr (ap (λ i. (m.txns i).waits k) (sym c.txn) ∙ waits)), s c.handed.current posts_by used unsettled)

    confirmed_after : (t u k : ℕ) → (new.txns t).stage ≡ Posting u → is_unsettled (new.changes u).verdict ≡ true → (new.txns t).confirmed k ≡ true → SendMove size m step t (Posting u) (new.txns t) →
        ((new.changes u).done k ≡ true) × AccusesAll new k (new.changes u).cells (outside size (new.changes u).done)
    confirmed_after t u k stage unsettled confirmed (SendMove.SettlesAs group adopts step_is h at is) = absurd (let e : Posting u ≡ Settling h.change group adopts = at in cc)
    confirmed_after t u k stage unsettled confirmed (SendMove.Posts step_is h at is) = absurd (let e : false ≡ true = sym (ap (λ (z : Txn). z.confirmed k) is) ∙ confirmed in cc)
    confirmed_after t u k stage unsettled confirmed (SendMove.Keeps posts g) = by_case (g.confirmed k confirmed) where
      then_on : ((m.changes u).done k ≡ true) × AccusesAll m k (m.changes u).cells (outside size (m.changes u).done) → ((new.changes u).done k ≡ true) × AccusesAll new k (new.changes u).cells (outside size (new.changes u).done)
      then_on h = (done_grows u k (drawn t u posts) h.0, renewed t u k posts (accuses_stay u k (before t u posts unsettled) h.0 (outside size (m.changes u).done) h.1))

      by_case : ((m.txns t).confirmed k ≡ true) ⊎ IsConfirmedNow m step t k → ((new.changes u).done k ≡ true) × AccusesAll new k (new.changes u).cells (outside size (new.changes u).done)
      by_case (inl old) = then_on (was.confirmed t u k posts (before t u posts unsettled) old)
      by_case (inr now) = then_on (handed_accuses t u k posts (before t u posts unsettled) now)

-- ---- every list of steps

pub post_done_accuses : EveryPostDoneAccuses
post_done_accuses size m IsReached.Start = record {
  posts = λ t u k stage. absurd (let e : false ≡ true = ap is_posting stage in cc);
  replies = λ k. tt;
  confirmed = λ t u k stage. absurd (let e : false ≡ true = ap is_posting stage in cc);
}
post_done_accuses size m (IsReached.Further old step reached allowed) = record {
  posts = posts_after size old reached step allowed (post_done_accuses size old reached);
  replies = replies_after size old reached step allowed (post_done_accuses size old reached);
  confirmed = λ t u k stage unsettled confirmed. confirmed_after size old reached step allowed (post_done_accuses size old reached) t u k stage unsettled confirmed (send_moves size old step allowed t (Posting u) refl stage);
}
