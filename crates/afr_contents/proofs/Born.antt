-- Whoever confirmed a birth has copies of its cells, over every list of steps.
use Rattle.std.proofs.Common.{◌≡◌, ◌∙◌, ℕ, Bool, true, false, refl, sym, ap, subst, ◌⊎◌, inl, inr, Option, Some, None}
use Rattle.std.specs.Prelude.{List, [], ◌∷◌, ◌||◌, is_some, if◌then◌else◌}
use Rattle.fop_types.specs.Jobs.{cells_of, IsJob}
use Rattle.fop_types.specs.StoreOps.{births, fits, edits, edited_on, born_if_absent, born_on, content_after}
use Rattle.fop_types.specs.declared.cells.Cell.{Cell}
use Rattle.fop_types.specs.declared.contents.Content.{Content}
use Rattle.fop_types.specs.declared.jobs.Job.{Job}
use Rattle.fop_types.specs.declared.jobs.Job.TheVariants as job
use Rattle.fop_types.specs.declared.store_ops.StoreOp.{StoreOp}
use Rattle.afr_machine.specs.Replicas.{Size}
use Rattle.afr_machine.specs.Touching.{is_cell, has_cell}
use Rattle.afr_machine.specs.Copies.{Store, contents_of, op_of, copy_with, row_of}
use Rattle.afr_machine.specs.Requests.{Ask}
use Rattle.afr_machine.specs.Requests.Ask.{Lock, Unlock, Mark, Op, Post, Fetch, Replace, Clear, Settle, Index, Open}
use Rattle.afr_machine.specs.Requests.Answer.{Done, Rows, Gone, Unfit}
use Rattle.afr_machine.specs.Bricks.{stored_by, answer_of, answer_of_op}
use Rattle.afr_machine.specs.Changes.{Change}
use Rattle.afr_machine.specs.Transactions.{cells_of_job}
use Rattle.afr_machine.specs.Transactions.Stage.{Over, Locking, Locked, Marking, Applying, Posting, Bearing, Polling, Unlocking}
use Rattle.afr_machine.specs.States.{State}
use Rattle.afr_machine.specs.Answering.{is_wanted}
use Rattle.afr_machine.specs.Turns.{MayBearNow, bearing}
use Rattle.afr_machine.specs.Steps.{Step, Allowed, after, IsReached, IsRefusal}
use Rattle.afr_machine.specs.Moves.{IsTaken}
use Rattle.afr_machine.proofs.BrickMoves.{bricks_move}
use Rattle.afr_laws.specs.Asking.{IsAskedBy, IsBirthBy}
use Rattle.afr_laws.proofs.LastPhase.Moves.{move_present}
use Rattle.afr_laws.proofs.OwnChanges.Steps.{changes_are_own}
use Rattle.afr_soundness.specs.Replaced.{HasCopy}
use Rattle.afr_soundness.specs.Replies.{EachReply}
use Rattle.afr_soundness.proofs.Replies.{done_is, reply_at, replies_of, HoldsOtherwise, move_replies}
use Rattle.afr_soundness.proofs.SendMoves.{IsConfirmedNow}
use Rattle.afr_decisions.proofs.Noted.{handed_asked}
use Rattle.afr_contents.specs.Firm.{ShowsBorn, BornHaveCopies, EveryBornHasCopies}
use Rattle.afr_contents.proofs.Ops.{after_births_on}
use Rattle.afr_contents.proofs.OfAdopted.{births_leave, adopted_stays}
use Rattle.afr_contents.proofs.BearMoves.{BearMove, bear_moves}

-- ---- the cells of births have contents afterwards

born_there : (content : Content) (x : Option Content) → is_some (born_if_absent content x) ≡ true
born_there content (Some there) = refl
born_there content None = refl

pub births_have : (cell : Cell) (bs : List (Cell × Content)) (x : Option Content) → has_cell (cells_of bs) cell ≡ true → is_some (born_on cell x bs) ≡ true
births_have cell [] x has = absurd (let no : false ≡ true = has in cc)
births_have cell (b ∷ bs) x has = by_case (λ y more. births_have cell bs y more) (is_cell cell b.0) refl where
  by_case : ((y : Option Content) → has_cell (cells_of bs) cell ≡ true → is_some (born_on cell y bs) ≡ true) → (c : Bool) → is_cell cell b.0 ≡ c → is_some (born_on cell (if c then born_if_absent b.1 x else x) bs) ≡ true
  by_case more true is = births_leave cell bs (born_if_absent b.1 x) (born_there b.1 x)
  by_case more false is = more x (sym (ap (λ c. c || has_cell (cells_of bs) cell) is) ∙ has)

copy_there : (changes : List ℕ) (x : Option Content) → is_some x ≡ true → is_some (copy_with changes x) ≡ true
copy_there changes (Some content) h = refl
copy_there changes None h = absurd (let no : false ≡ true = h in cc)

fits_done : (b : Bool) → answer_of_op b ≡ Done → b ≡ true
fits_done true h = refl
fits_done false h = absurd (let no : Unfit ≡ Done = h in cc)

pub fits_born : (u : ℕ) (op : StoreOp) (store : Store) → fits (contents_of store) op ≡ true → ShowsBorn (stored_by (Op u op) store) (Op u op)
fits_born u op store fitting cell has =
    ap (λ b. (row_of (if b then op_of (contents_of store) u op cell (store cell) else store cell)).present) fitting
    ∙ copy_there _ (content_after (contents_of store) op cell) (births_have cell (births op) (edited_on cell (contents_of store cell) (edits (contents_of store) op)) has)

op_born : (u : ℕ) (op : StoreOp) (store : Store) → answer_of (Op u op) store ≡ Done → ShowsBorn (stored_by (Op u op) store) (Op u op)
op_born u op store done = fits_born u op store (fits_done (fits (contents_of store) op) done)

-- ---- the op of a birth

-- what a birth asks is its op
module _ (size : Size) (changes : ℕ → Change) (own : Job) (k : ℕ) (P : Ask → Type 0) (of_op : (op : StoreOp) → IsBirthBy own op → P (Op 0 op)) where
  asks_op : (ask : Ask) → IsAskedBy size changes own Bearing k ask → P ask
  asks_op (Op u op) (inr h) = subst (λ n. P (Op n op)) (sym h.1.0) (of_op op h.1.1)
  asks_op (Op u op) (inl h) = absurd (let no : Bearing ≡ Applying u = h.0 in cc)
  asks_op (Lock shared cells) h = absurd (let no : Bearing ≡ Locking cells shared k = h in cc)
  asks_op Unlock h = absurd (let no : Bearing ≡ Unlocking = h in cc)
  asks_op (Mark u cells) h = absurd (let no : Bearing ≡ Marking u = h.0 in cc)
  asks_op (Post u cells accused) h = absurd (let no : Bearing ≡ Posting u = h.0 in cc)
  asks_op (Fetch cell) (inl h) = absurd (let no : Bearing ≡ Locked = h.0 in cc)
  asks_op (Fetch cell) (inr h) = absurd h
  asks_op (Replace cell found) h = absurd h
  asks_op (Clear cells who) h = absurd h
  asks_op (Settle u cells accused) h = absurd h.0
  asks_op Index h = absurd (let no : Bearing ≡ Polling = h in cc)
  asks_op Open h = absurd (let no : Bearing ≡ Polling = h in cc)
  asks_op other h = absurd h

born_cells : (own : Job) (op : StoreOp) → IsJob own → IsBirthBy own op → cells_of_job own ≡ cells_of (births op)
born_cells (job.Birth cells of_job) op is by = is.3 ∙ ap (λ o. cells_of (births o)) (sym by)
born_cells other op is by = absurd by

-- ---- one step

module _ (size : Size) (m : State) (r : IsReached size m) (was : BornHaveCopies m) (step : Step) (allowed : Allowed size m step) where
  abbrev new : State
  new = after size m step

  copy_stays : (k : ℕ) (cell : Cell) → HasCopy m k cell → HasCopy new k cell
  copy_stays k cell h = move_present (IsTaken m step k) (m.bricks k) (new.bricks k) cell (bricks_move size m step allowed k) h

  -- ---- replies

  shows_on : (k : ℕ) (ask : Ask) → ShowsBorn (m.bricks k).store ask → ShowsBorn (new.bricks k).store ask
  shows_on k (Op u op) h = λ cell has. copy_stays k cell (h cell has)
  shows_on k other h = tt

  shows_now : (k : ℕ) (ask : Ask) → (new.bricks k).store ≡ stored_by ask (m.bricks k).store → answer_of ask (m.bricks k).store ≡ Done → ShowsBorn (new.bricks k).store ask
  shows_now k (Op u op) stored done = subst (λ (st : Store). ShowsBorn st (Op u op)) (sym stored) (op_born u op (m.bricks k).store done)
  shows_now k other stored done = tt

  otherwise : (k : ℕ) → HoldsOtherwise (λ by ask answer. answer ≡ Done → ShowsBorn (new.bricks k).store ask)
  otherwise k = record {
    gone = λ by ask e. absurd (let no : Gone ≡ Done = e in cc);
    rows = λ by ask rows e. absurd (let no : Rows rows ≡ Done = e in cc);
    unlock = λ by done. tt;
    refused = λ by ask answer refusal e. absurd (subst IsRefusal e refusal);
  }

  replies_after : (k : ℕ) → EachReply (λ by ask answer. answer ≡ Done → ShowsBorn (new.bricks k).store ask) (new.bricks k).outputs
  replies_after k =
      move_replies (λ by ask answer. answer ≡ Done → ShowsBorn (new.bricks k).store ask) (otherwise k) (IsTaken m step k) (m.bricks k) (new.bricks k) (λ by ask rest front stored done. shows_now k ask stored done)
      (replies_of (λ by ask answer. answer ≡ Done → ShowsBorn (new.bricks k).store ask) (m.bricks k).outputs
      (λ by ask answer one done. shows_on k ask (reply_at (λ b a r. r ≡ Done → ShowsBorn (m.bricks k).store a) by ask answer (m.bricks k).outputs (was.replies k) one done)))
      (bricks_move size m step allowed k)

  -- ---- a birth that is confirmed now

  module _ (t k : ℕ) (stage : (m.txns t).stage ≡ Bearing) (c : IsConfirmedNow m step t k) (cell : Cell) (has : has_cell (cells_of_job (m.txns t).job) cell ≡ true) where
    asked : IsAskedBy size m.changes (m.txns t).job Bearing k c.ask
    asked =
        subst (λ s. IsAskedBy size m.changes (m.txns t).job s k c.ask) stage
        (subst (λ n. IsAskedBy size m.changes (m.txns n).job (m.txns n).stage k c.ask) c.txn (handed_asked size m r k c.by c.ask c.answer c.handed))

    confirmed_now : is_wanted c.ask c.answer ≡ true → (c.answer ≡ Done → ShowsBorn (m.bricks k).store c.ask) → HasCopy m k cell
    confirmed_now =
        asks_op size m.changes (m.txns t).job k (λ ask. is_wanted ask c.answer ≡ true → (c.answer ≡ Done → ShowsBorn (m.bricks k).store ask) → HasCopy m k cell)
        (λ op is wanted shows. shows (done_is c.answer wanted) cell (ap (λ cs. has_cell cs cell) (sym (born_cells (m.txns t).job op ((changes_are_own size m r).own t).job is)) ∙ has))
        c.ask asked

    born_now : HasCopy m k cell
    born_now = confirmed_now c.handed.wanted (subst (EachReply (λ b a a2. a2 ≡ Done → ShowsBorn (m.bricks k).store a)) c.handed.front (was.replies k)).0

  confirmed_after : (t k : ℕ) → BearMove size m step t (new.txns t) → (new.txns t).confirmed k ≡ true → (cell : Cell) → has_cell (cells_of_job (new.txns t).job) cell ≡ true → HasCopy new k cell
  confirmed_after t k (BearMove.Bears step_is may own none) h cell has = absurd (none k h)
  confirmed_after t k (BearMove.Keeps stage own confirmed) h cell has = copy_stays k cell (by_case (confirmed k h)) where
    had : has_cell (cells_of_job (m.txns t).job) cell ≡ true
    had = sym (ap (λ j. has_cell (cells_of_job j) cell) own) ∙ has

    by_case : ((m.txns t).confirmed k ≡ true) ⊎ IsConfirmedNow m step t k → HasCopy m k cell
    by_case (inl before) = was.confirmed t k stage before cell had
    by_case (inr now) = born_now t k stage now cell had

  -- ---- a content is adopted from the beginning of the birth

  begun_now : (t : ℕ) (may : MayBearNow size m t) (cell : Cell) → has_cell (cells_of_job (m.txns t).job) cell ≡ true → is_some ((bearing m t (m.txns t).job).adopted cell) ≡ true
  begun_now t may cell has =
      ap (λ j. is_some ((bearing m t j).adopted cell)) may.job_is
      ∙ ap is_some (after_births_on (births may.op) m.adopted cell)
      ∙ births_have cell (births may.op) (m.adopted cell) (ap (λ cs. has_cell cs cell) (sym (subst IsJob may.job_is ((changes_are_own size m r).own t).job).3) ∙ ap (λ j. has_cell (cells_of_job j) cell) (sym may.job_is) ∙ has)

  adopted_after : (t : ℕ) → BearMove size m step t (new.txns t) → (cell : Cell) → has_cell (cells_of_job (new.txns t).job) cell ≡ true → is_some (new.adopted cell) ≡ true
  adopted_after t (BearMove.Keeps stage own confirmed) cell has = adopted_stays size m step allowed cell (was.adopted t stage cell (sym (ap (λ j. has_cell (cells_of_job j) cell) own) ∙ has))
  adopted_after t (BearMove.Bears step_is may own none) cell has =
      ap (λ s. is_some ((after size m s).adopted cell)) step_is ∙ begun_now t may cell (sym (ap (λ j. has_cell (cells_of_job j) cell) own) ∙ has)

-- ---- every list of steps

pub born_have_copies : EveryBornHasCopies
born_have_copies size m IsReached.Start = record {
  replies = λ k. tt;
  confirmed = λ t k stage. absurd (let no : Over ≡ Bearing = stage in cc);
  adopted = λ t stage. absurd (let no : Over ≡ Bearing = stage in cc);
}
born_have_copies size m (IsReached.Further old step reached allowed) = record {
  replies = replies_after size old reached (born_have_copies size old reached) step allowed;
  confirmed = λ t k stage. confirmed_after size old reached (born_have_copies size old reached) step allowed t k (bear_moves size old step allowed t stage);
  adopted = λ t stage. adopted_after size old reached (born_have_copies size old reached) step allowed t (bear_moves size old step allowed t stage);
}
