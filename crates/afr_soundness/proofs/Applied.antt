-- Who answered the op of an unsettled change with Done has it in its copies, over every list of steps.
use Rattle.std.proofs.Common.{◌≡◌, ◌∙◌, ℕ, ◌≤◌, ◌<◌, Bool, true, false, refl, sym, ap, subst, ◌⊎◌, inl, inr, arith, Option, Some, None}
use Rattle.std.specs.Prelude.{if◌then◌else◌, List, ◌∷◌, ◌||◌, ◌==◌, is_some}
use Rattle.std.proofs.lemmas.Bool.{cases_lt, eq-eqb}
use Rattle.fop_types.specs.StoreOps.{needs, fits, content_after}
use Rattle.fop_types.specs.declared.cells.Cell.{Cell}
use Rattle.fop_types.specs.declared.contents.Content.{Content}
use Rattle.fop_types.specs.declared.store_ops.StoreOp.{StoreOp}
use Rattle.afr_machine.specs.Replicas.{Size}
use Rattle.afr_machine.specs.Touching.{has_cell}
use Rattle.afr_machine.specs.Copies.{Copy, Kept, Store, content_of, contents_of, changes_of, has_change, on_cells, mark_of, post_of, settle_of, clear_of, changes_after, copy_with, op_of}
use Rattle.afr_machine.specs.Requests.{Sender, Ask, Answer, Input}
use Rattle.afr_machine.specs.Requests.Ask.{Mark, Op, Post, Replace, Clear, Settle}
use Rattle.afr_machine.specs.Requests.Answer.{Done, Rows, Gone, Unfit}
use Rattle.afr_machine.specs.Requests.Input.{Asked}
use Rattle.afr_machine.specs.Bricks.{Brick, stored_by, answer_of, answer_of_op}
use Rattle.afr_machine.specs.Changes.{Change, is_unsettled}
use Rattle.afr_machine.specs.Transactions.Stage.{Applying, Bearing}
use Rattle.afr_machine.specs.States.{State}
use Rattle.afr_machine.specs.Answering.{is_single}
use Rattle.afr_machine.specs.Steps.{Step, Allowed, after, IsReached, IsRefusal}
use Rattle.afr_machine.specs.Moves.{BrickMove, IsTaken}
use Rattle.afr_machine.specs.Moves.BrickMove.{Stays, Takes, Hands, Serves, Refuses, GivesUp, Steers}
use Rattle.afr_machine.proofs.BrickMoves.{bricks_move}
use Rattle.afr_laws.specs.Senders.{EachInput}
use Rattle.afr_laws.specs.Asking.{IsAskedBy}
use Rattle.afr_laws.specs.OwnChanges.{was_unsettled, IsOwnStage}
use Rattle.afr_laws.specs.Copies.{IsOpOf, Carries}
use Rattle.afr_laws.specs.Numbers.{applied}
use Rattle.afr_laws.specs.Fresh.{is_behind}
use Rattle.afr_laws.proofs.Bools.{apart_bools, both_left, or_last}
use Rattle.afr_laws.proofs.Carry.{at_case}
use Rattle.afr_laws.proofs.Drawn.{changes_are_drawn}
use Rattle.afr_laws.proofs.OwnChanges.Steps.{changes_are_own}
use Rattle.afr_laws.proofs.Copies.Contents.{needed_present, content_stays}
use Rattle.afr_laws.proofs.Copies.Served.{served_store, steered_store}
use Rattle.afr_laws.proofs.Copies.Steps.{copies_are_of_changes}
use Rattle.afr_laws.proofs.Standing.Stores.{some_content}
use Rattle.afr_soundness.specs.Replies.{EachReply, IsReplyIn}
use Rattle.afr_soundness.specs.CopyApart.{IsCopyApart}
use Rattle.afr_soundness.specs.Applied.{Holds, ShowsApplied, AppliedHolds, EveryAppliedHolds}
use Rattle.afr_soundness.proofs.PhaseMoves.{IsHandedIn}
use Rattle.afr_soundness.proofs.ChangeMoves.{ChangeMove, change_moves, cells_stay, sent_stays, decided_was}
use Rattle.afr_soundness.proofs.Replies.{done_is, reply_at, replies_of, HoldsOtherwise, move_replies}
use Rattle.afr_soundness.proofs.Takers.Asked.{asked_are_members}
use Rattle.afr_soundness.proofs.Unsettled.{UnsettledFrom, unsettled_from, drawn_from, becomes_own, decided_is_not}
use Rattle.afr_soundness.proofs.Copied.Steps.{asked_now}
use Rattle.afr_soundness.proofs.CopyApart.Steps.{keeps_copies_apart}
use Rattle.afr_soundness.proofs.Whole.{replaced_same, held_whole}

-- ---- what a request leaves of a change in a copy

some_copied : (u : ℕ) (copy : Option Copy) → has_change (changes_of copy) u ≡ true → is_some copy ≡ true
some_copied u None h = absurd (let e : false ≡ true = h in cc)
some_copied u (Some copy) h = refl

op_has : (u v : ℕ) (altered : Bool) (copy : Option Copy) (content : Option Content) → is_some content ≡ true → has_change (changes_of copy) u ≡ true → has_change (changes_of (copy_with (changes_after altered v copy) content)) u ≡ true
op_has u v altered copy None some h = absurd (let e : false ≡ true = some in cc)
op_has u v altered None (Some content) some h = absurd (let e : false ≡ true = h in cc)
op_has u v true (Some copy) (Some content) some h = or_last (u == v) (has_change copy.changes u) h
op_has u v false (Some copy) (Some content) some h = h

own_has : (u : ℕ) (altered : Bool) (copy : Option Copy) (content : Option Content) → altered ≡ true → is_some copy ≡ true → is_some content ≡ true → has_change (changes_of (copy_with (changes_after altered u copy) content)) u ≡ true
own_has u altered copy None own some stays = absurd (let e : false ≡ true = stays in cc)
own_has u altered None (Some content) own some stays = absurd (let e : false ≡ true = some in cc)
own_has u true (Some copy) (Some content) own some stays = ap (λ b. b || has_change copy.changes u) (eq-eqb u u refl)
own_has u false (Some copy) (Some content) own some stays = absurd (let e : false ≡ true = own in cc)

abbrev pub is_replace : Ask → Bool
is_replace (Replace at found) = true
is_replace other = false

module _ (store : Store) (cell : Cell) (u : ℕ) where
  counted_has : (cells : List Cell) (change : Kept → Kept) → ((kept : Kept) → (change kept).copy ≡ kept.copy) → has_change (changes_of (store cell).copy) u ≡ true → has_change (changes_of (on_cells cells change store cell).copy) u ≡ true
  counted_has cells change keeps h = by_case (has_cell cells cell) where
    by_case : (b : Bool) → has_change (changes_of (if b then change (store cell) else store cell).copy) u ≡ true
    by_case true = ap (λ c. has_change (changes_of c) u) (keeps (store cell)) ∙ h
    by_case false = h

  pub stored_has : (ask : Ask) → is_replace ask ≡ false → has_change (changes_of (store cell).copy) u ≡ true → has_change (changes_of (stored_by ask store cell).copy) u ≡ true
  stored_has (Mark v cells) plain h = counted_has cells mark_of (λ kept. refl) h
  stored_has (Op v op) plain h = by_fit (fits (contents_of store) op) where
    by_fit : (b : Bool) → has_change (changes_of (if b then op_of (contents_of store) v op cell (store cell) else store cell).copy) u ≡ true
    by_fit true = op_has u v (has_cell (needs op) cell) (store cell).copy (content_after (contents_of store) op cell) (content_stays (contents_of store) op cell (some_content (store cell).copy (some_copied u (store cell).copy h))) h
    by_fit false = h
  stored_has (Post v cells accused) plain h = counted_has cells (post_of accused) (λ kept. refl) h
  stored_has (Replace at found) plain h = absurd (let e : true ≡ false = plain in cc)
  stored_has (Clear cells who) plain h = counted_has cells (clear_of who) (λ kept. refl) h
  stored_has (Settle v cells accused) plain h = counted_has cells (settle_of accused) (λ kept. refl) h
  stored_has other plain h = h

  -- an op that fits is in the copies of the cells that it needs
  op_adds : (op : StoreOp) → fits (contents_of store) op ≡ true → has_cell (needs op) cell ≡ true → has_change (changes_of (stored_by (Op u op) store cell).copy) u ≡ true
  op_adds op fitting need =
      ap (λ b. has_change (changes_of (if b then op_of (contents_of store) u op cell (store cell) else store cell).copy) u) fitting
      ∙ own_has u (has_cell (needs op) cell) (store cell).copy (content_after (contents_of store) op cell) need there (content_stays (contents_of store) op cell present) where
        present : is_some (contents_of store cell) ≡ true
        present = needed_present (contents_of store) op cell fitting need

        some_of_content : (copy : Option Copy) → is_some (content_of copy) ≡ true → is_some copy ≡ true
        some_of_content None h = absurd (let e : false ≡ true = h in cc)
        some_of_content (Some copy) h = refl

        there : is_some (store cell).copy ≡ true
        there = some_of_content (store cell).copy present

-- ---- one step

module _ (size : Size) (m : State) (r : IsReached size m) (step : Step) (allowed : Allowed size m step) where
  abbrev new : State
  new = after size m step

  next : IsReached size (after size m step)
  next = IsReached.Further m step r allowed

  -- what a brick has of a change that is unsettled stays
  holds_stays : (u k : ℕ) → is_unsettled (m.changes u).verdict ≡ true → Holds m u k → Holds new u k
  holds_stays u k unsettled h = λ cell has. moved cell (had cell has) (bricks_move size m step allowed k) where
    had : (cell : Cell) → has_cell (new.changes u).cells cell ≡ true → has_cell (m.changes u).cells cell ≡ true
    had cell has = sym (ap (λ cs. has_cell cs cell) (cells_stay size m step allowed u (drawn_from size m r step allowed u (UnsettledFrom.Was unsettled)))) ∙ has

    served : (cell : Cell) → has_cell (m.changes u).cells cell ≡ true → (by : Sender) (ask : Ask) (rest : List Input) → (m.bricks k).line ≡ Asked by ask ∷ rest → has_change (changes_of (stored_by ask (m.bricks k).store cell).copy) u ≡ true
    served cell has by (Replace at found) rest front = replaced_same m u k unsettled at found (subst (EachInput (λ by ask. IsCopyApart m k ask)) front ((keeps_copies_apart size m r).replaces k)).0 cell has ∙ h cell has
    served cell has by other rest front = stored_has (m.bricks k).store cell u other refl (h cell has)

    moved : (cell : Cell) → has_cell (m.changes u).cells cell ≡ true → BrickMove (IsTaken m step k) (m.bricks k) (new.bricks k) → has_change (applied new k cell) u ≡ true
    moved cell has (Serves by ask rest front would is) =
        ap (λ (b : Brick). has_change (changes_of (b.store cell).copy) u) is ∙ ap (λ (s : Store). has_change (changes_of (s cell).copy) u) (served_store (m.bricks k).power by ask (record (m.bricks k) { line = rest })) ∙ served cell has by ask rest front
    moved cell has (Stays is) = ap (λ (b : Brick). has_change (changes_of (b.store cell).copy) u) is ∙ h cell has
    moved cell has (Takes inputs its is) = ap (λ (b : Brick). has_change (changes_of (b.store cell).copy) u) is ∙ h cell has
    moved cell has (Hands first rest front is) = ap (λ (b : Brick). has_change (changes_of (b.store cell).copy) u) is ∙ h cell has
    moved cell has (Refuses by ask answer rest front may_be refusal is) = ap (λ (b : Brick). has_change (changes_of (b.store cell).copy) u) is ∙ h cell has
    moved cell has (GivesUp by ask rest front would is) = ap (λ (b : Brick). has_change (changes_of (b.store cell).copy) u) is ∙ h cell has
    moved cell has (Steers control rest front is) =
        ap (λ (b : Brick). has_change (changes_of (b.store cell).copy) u) is ∙ ap (λ (s : Store). has_change (changes_of (s cell).copy) u) (steered_store control (record (m.bricks k) { line = rest })) ∙ h cell has

  -- ---- the op of a change

  drawn_sent : (u : ℕ) → was_unsettled (m.changes u).verdict ≡ true → u ≤ m.drawn
  drawn_sent u sent = by_order (cases_lt m.drawn u) where
    by_order : (m.drawn < u) ⊎ (u ≤ m.drawn) → u ≤ m.drawn
    by_order (inl beyond) = apart_bools sent (ap was_unsettled ((changes_are_drawn size m r).beyond u beyond))
    by_order (inr low) = low

  op_stays : (u : ℕ) → u ≤ m.drawn → (new.changes u).op ≡ (m.changes u).op
  op_stays u drawn = by_case (change_moves size m step allowed u) where
    by_case : ChangeMove size m step u (new.changes u) → (new.changes u).op ≡ (m.changes u).op
    by_case (ChangeMove.Same is) = ap (λ (c : Change). c.op) is
    by_case (ChangeMove.Marks t step_is h at is) = absurd (omega (arith, at, drawn))
    by_case (ChangeMove.Unsettles t step_is h at is) = ap (λ (c : Change). c.op) is
    by_case (ChangeMove.Applies k by v op answer step_is handed stage is) = ap (λ (c : Change). c.op) is
    by_case (ChangeMove.Decides t step_is h at unsettled is) = ap (λ (c : Change). c.op) is

  op_carry : (u : ℕ) (op : StoreOp) → IsOpOf m.changes u op → IsOpOf new.changes u op
  op_carry u op (inl birth) = inl birth
  op_carry u op (inr sent) = let drawn = drawn_sent u sent.0 in inr (sent_stays size m step allowed u drawn sent.0, sent.1 ∙ sym (op_stays u drawn))

  -- an op that was sent is not that of a change which becomes unsettled now
  not_now : (u : ℕ) (op : StoreOp) → IsOpOf m.changes u op → UnsettledFrom size m r step allowed u → is_unsettled (m.changes u).verdict ≡ true
  not_now u op of (UnsettledFrom.Was h) = h
  not_now u op (inl birth) (UnsettledFrom.Becomes t step_is h at) = absurd (omega (arith, birth.0, at, (becomes_own size m r step allowed t h).1.0))
  not_now u op (inr sent) (UnsettledFrom.Becomes t step_is h at) = apart_bools sent.0 (ap (λ n. was_unsettled (m.changes n).verdict) at ∙ ap was_unsettled (becomes_own size m r step allowed t h).1.1)

  -- ---- answers

  shows_on : (k : ℕ) (ask : Ask) → ShowsApplied m k ask → ShowsApplied new k ask
  shows_on k (Op u op) h = (op_carry u op h.0, λ unsettled. let before = not_now u op h.0 (unsettled_from size m r step allowed u unsettled) in holds_stays u k before (h.1 before))
  shows_on k other h = tt

  fits_done : (b : Bool) → answer_of_op b ≡ Done → b ≡ true
  fits_done true h = refl
  fits_done false h = absurd (let e : Unfit ≡ Done = h in cc)

  -- the cells of the change are those that its op needs
  needs_cell : (u : ℕ) (op : StoreOp) (cell : Cell) → IsOpOf new.changes u op → has_cell (new.changes u).cells cell ≡ true → has_cell (needs op) cell ≡ true
  needs_cell u op cell (inl birth) has = apart_bools has (ap (λ cs. has_cell cs cell) (ap (λ n. (new.changes n).cells) birth.0 ∙ (changes_are_own size new next).fit.none))
  needs_cell u op cell (inr sent) has = ap (λ o. has_cell (needs o) cell) sent.1 ∙ sym (ap (λ cs. has_cell cs cell) ((changes_are_own size new next).fit.needs_are u)) ∙ has

  shows_now : (k : ℕ) (by : Sender) (ask : Ask) (rest : List Input) → (m.bricks k).line ≡ Asked by ask ∷ rest → (new.bricks k).store ≡ stored_by ask (m.bricks k).store → answer_of ask (m.bricks k).store ≡ Done → ShowsApplied new k ask
  shows_now k by (Op u op) rest front stored done = (of, λ unsettled cell has. ap (λ (s : Store). has_change (changes_of (s cell).copy) u) stored ∙ op_adds (m.bricks k).store cell u op (fits_done (fits (contents_of (m.bricks k).store) op) done) (needs_cell u op cell of has)) where
    of : IsOpOf new.changes u op
    of = op_carry u op (subst (EachInput (λ by ask. Carries m.changes ask)) front ((copies_are_of_changes size m r).bricks k).line).0
  shows_now k by other rest front stored done = tt

  otherwise : (k : ℕ) → HoldsOtherwise (λ by ask answer. answer ≡ Done → ShowsApplied (after size m step) k ask)
  otherwise k = record {
    gone = λ by ask e. absurd (let no : Gone ≡ Done = e in cc);
    rows = λ by ask rows e. absurd (let no : Rows rows ≡ Done = e in cc);
    unlock = λ by done. tt;
    refused = λ by ask answer refusal e. absurd (subst IsRefusal e refusal);
  }

  module _ (was : AppliedHolds m) where
    replies_after : (k : ℕ) → EachReply (λ by ask answer. answer ≡ Done → ShowsApplied new k ask) (new.bricks k).outputs
    replies_after k =
        move_replies (λ by ask answer. answer ≡ Done → ShowsApplied (after size m step) k ask) (otherwise k) (IsTaken m step k) (m.bricks k) (new.bricks k) (λ by ask rest front stored done. shows_now k by ask rest front stored done)
        (replies_of (λ by ask answer. answer ≡ Done → ShowsApplied (after size m step) k ask) (m.bricks k).outputs
        (λ by ask answer one done. shows_on k ask (reply_at (λ b a r. r ≡ Done → ShowsApplied m k a) by ask answer (m.bricks k).outputs (was.replies k) one done)))
        (bricks_move size m step allowed k)

    -- ---- who applied a change

    -- the answer is to the op of the change that its transaction applies
    handed_holds : (k u v : ℕ) (by : Sender) (op : StoreOp) (answer : Answer) → IsHandedIn m k by (Op v op) answer → (m.txns by.txn).stage ≡ Applying u → is_unsettled (m.changes u).verdict ≡ true → Holds m u k
    handed_holds k u v by op answer handed stage unsettled = subst (λ n. Holds m n k) same (shown.1 (subst (λ n. is_unsettled (m.changes n).verdict ≡ true) (sym same) unsettled)) where
      reply : IsReplyIn by (Op v op) answer (m.bricks k).outputs
      reply = subst (IsReplyIn by (Op v op) answer) (sym handed.front) (inl (refl, (refl, refl)))

      shown : ShowsApplied m k (Op v op)
      shown = reply_at (λ b a r. r ≡ Done → ShowsApplied m k a) by (Op v op) answer (m.bricks k).outputs (was.replies k) reply (done_is answer handed.wanted)

      used : (m.txns by.txn).out k ≡ false
      used = (asked_are_members size m r by.txn k (ap is_behind stage) (both_left ((m.txns by.txn).waits k) (is_single ((m.txns by.txn).flying k)) handed.awaited)).not_out

      of_stage : IsAskedBy size m.changes (m.txns by.txn).job (Applying u) k (Op v op) → v ≡ u
      of_stage (inl applies) = let e : Applying u ≡ Applying v = applies.0 in cc
      of_stage (inr bears) = absurd (let e : Applying u ≡ Bearing = bears.0 in cc)

      same : v ≡ u
      same = of_stage (subst (λ s. IsAskedBy size m.changes (m.txns by.txn).job s k (Op v op)) stage (asked_now size m r k by (Op v op) answer reply handed.current used refl).asked)

    done_after : (u k : ℕ) → is_unsettled (new.changes u).verdict ≡ true → (new.changes u).done k ≡ true → ChangeMove size m step u (new.changes u) → Holds new u k
    done_after u k unsettled done (ChangeMove.Same is) =
        let before = sym (ap (λ (c : Change). is_unsettled c.verdict) is) ∙ unsettled in
        holds_stays u k before (was.done u k before (sym (ap (λ (c : Change). c.done k) is) ∙ done))
    done_after u k unsettled done (ChangeMove.Marks t step_is h at is) = absurd (let e : false ≡ true = sym (ap (λ (c : Change). is_unsettled c.verdict) is) ∙ unsettled in cc)
    done_after u k unsettled done (ChangeMove.Unsettles t step_is h at is) =
        apart_bools (sym (ap (λ (c : Change). c.done k) is) ∙ done) (was.none u k (ap (λ n. was_unsettled (m.changes n).verdict) at ∙ ap was_unsettled (becomes_own size m r step allowed t h).1.1))
    done_after u k unsettled done (ChangeMove.Applies j by v op answer step_is handed stage is) =
        let before = sym (ap (λ (c : Change). is_unsettled c.verdict) is) ∙ unsettled in
        holds_stays u k before (at_case (λ i (b : Bool). b ≡ true → Holds m u i) (m.changes u).done j true (λ now. handed_holds j u v by op answer handed stage before) k (λ ne old. was.done u k before old) (sym (ap (λ (c : Change). c.done k) is) ∙ done))
    done_after u k unsettled done (ChangeMove.Decides t step_is h at still is) = apart_bools (sym (ap (λ (c : Change). is_unsettled c.verdict) is) ∙ unsettled) (decided_is_not h.adopts)

    none_after : (u k : ℕ) → was_unsettled (new.changes u).verdict ≡ false → ChangeMove size m step u (new.changes u) → (new.changes u).done k ≡ false
    none_after u k never (ChangeMove.Same is) = ap (λ (c : Change). c.done k) is ∙ was.none u k (sym (ap (λ (c : Change). was_unsettled c.verdict) is) ∙ never)
    none_after u k never (ChangeMove.Marks t step_is h at is) = ap (λ (c : Change). c.done k) is
    none_after u k never (ChangeMove.Unsettles t step_is h at is) = absurd (let e : true ≡ false = sym (ap (λ (c : Change). was_unsettled c.verdict) is) ∙ never in cc)
    none_after u k never (ChangeMove.Applies j by v op answer step_is handed stage is) =
        apart_bools (subst (λ s. IsOwnStage m.changes (m.txns by.txn).own s) stage ((changes_are_own size m r).own by.txn).stage).1.1 (sym (ap (λ (c : Change). was_unsettled c.verdict) is) ∙ never)
    none_after u k never (ChangeMove.Decides t step_is h at still is) = apart_bools (decided_was h.adopts) (sym (ap (λ (c : Change). was_unsettled c.verdict) is) ∙ never)

-- ---- every list of steps

pub applied_holds : (size : Size) (m : State) → IsReached size m → AppliedHolds m
applied_holds size m IsReached.Start = record { replies = λ k. tt; done = λ u k unsettled. absurd (let e : false ≡ true = unsettled in cc); none = λ u k never. refl }
applied_holds size m (IsReached.Further old step reached allowed) = record {
  replies = λ k. replies_after size old reached step allowed (applied_holds size old reached) k;
  done = λ u k unsettled done. done_after size old reached step allowed (applied_holds size old reached) u k unsettled done (change_moves size old step allowed u);
  none = λ u k never. none_after size old reached step allowed (applied_holds size old reached) u k never (change_moves size old step allowed u);
}

pub keeps_applied : EveryAppliedHolds
keeps_applied size m r = record { whole = held_whole size m r; applied_holds = applied_holds size m r }
