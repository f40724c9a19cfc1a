-- Whoever confirmed a replacement has a copy, over every list of steps.
use Rattle.std.proofs.Common.{◌≡◌, ◌∙◌, ℕ, ◌≤◌, Bool, true, false, sym, ap, subst, ◌⊎◌, inl, inr, arith, Some}
use Rattle.std.specs.Prelude.{if◌then◌else◌, List, [], ◌∷◌, ◌&&◌, ◌==◌}
use Rattle.std.specs.Ordering.{is_eq}
use Rattle.std.proofs.lemmas.Bool.{eqb-true}
use Rattle.std.proofs.lemmas.Cmp.{tied_itself}
use Rattle.fop_types.specs.declared.cells.Cell.{Cell}
use Rattle.fop_types.proofs.MapLemmas.{cell_cmp_total}
use Rattle.afr_machine.specs.Replicas.{Size}
use Rattle.afr_machine.specs.Touching.{is_cell, has_cell}
use Rattle.afr_machine.specs.Copies.{Store, Fetched, rows_of, row_of}
use Rattle.afr_machine.specs.Requests.{Ask}
use Rattle.afr_machine.specs.Requests.Ask.{Replace}
use Rattle.afr_machine.specs.Requests.Answer.{Done, Rows, Gone}
use Rattle.afr_machine.specs.Bricks.{stored_by}
use Rattle.afr_machine.specs.Phases.{Phase}
use Rattle.afr_machine.specs.Transactions.{CopyRun}
use Rattle.afr_machine.specs.States.{State}
use Rattle.afr_machine.specs.Sending.{is_replaced, is_confirmed_sink}
use Rattle.afr_machine.specs.Steps.{Step, Allowed, after, IsReached, IsRefusal}
use Rattle.afr_machine.specs.Moves.{IsTaken}
use Rattle.afr_machine.proofs.BrickMoves.{bricks_move}
use Rattle.afr_laws.proofs.Bools.{both_left, both_right, either_way, or_right}
use Rattle.afr_laws.proofs.Sharing.{cells_are}
use Rattle.afr_laws.proofs.Overtaken.Steps.{PhaseFrom, phase_from}
use Rattle.afr_laws.proofs.Overtaken.Steps.PhaseFrom.{Old, Now}
use Rattle.afr_laws.proofs.LastPhase.Moves.{move_present}
use Rattle.afr_soundness.specs.Replies.{EachReply}
use Rattle.afr_soundness.specs.Replaced.{HasCopy, ShowsReplaced, ReplacedHaveCopies, EveryReplacedHasCopy}
use Rattle.afr_soundness.specs.Copied.{is_copying}
use Rattle.afr_soundness.proofs.PhaseMoves.{PhaseMove, phase_moves}
use Rattle.afr_soundness.proofs.Replies.{done_is, reply_at, replies_of, HoldsOtherwise, move_replies}
use Rattle.afr_soundness.proofs.RunMoves.{RunMove, run_moves}

pub is_itself : (cell : Cell) → is_cell cell cell ≡ true
is_itself cell = ap is_eq (tied_itself cell_cmp_total cell)

-- ---- one step

replaced_at : (at : Cell) (found : Fetched) (store : Store) → (rows_of (stored_by (Replace at found) store) at).present ≡ true
replaced_at at found store = ap (λ b. (row_of (if b then record (store at) { copy = Some found.copy; last = found.last } else store at)).present) (is_itself at)

module _ (size : Size) (m : State) (was : ReplacedHaveCopies m) (step : Step) (allowed : Allowed size m step) where
  abbrev new : State
  new = after size m step

  copy_stays : (k : ℕ) (cell : Cell) → HasCopy m k cell → HasCopy new k cell
  copy_stays k cell h = move_present (IsTaken m step k) (m.bricks k) (new.bricks k) cell (bricks_move size m step allowed k) h

  -- ---- replies

  shows_on : (k : ℕ) (ask : Ask) → ShowsReplaced (m.bricks k).store ask → ShowsReplaced (new.bricks k).store ask
  shows_on k (Replace cell found) h = copy_stays k cell h
  shows_on k other h = tt

  shows_now : (k : ℕ) (ask : Ask) → (new.bricks k).store ≡ stored_by ask (m.bricks k).store → ShowsReplaced (new.bricks k).store ask
  shows_now k (Replace cell found) stored = ap (λ (st : Store). (rows_of st cell).present) stored ∙ replaced_at cell found (m.bricks k).store
  shows_now k other stored = tt

  otherwise : (k : ℕ) → HoldsOtherwise (λ by ask answer. answer ≡ Done → ShowsReplaced (new.bricks k).store ask)
  otherwise k = record {
    gone = λ by ask e. absurd (let no : Gone ≡ Done = e in cc);
    rows = λ by ask rows e. absurd (let no : Rows rows ≡ Done = e in cc);
    unlock = λ by done. tt;
    refused = λ by ask answer refusal e. absurd (subst IsRefusal e refusal);
  }

  replies_after : (k : ℕ) → EachReply (λ by ask answer. answer ≡ Done → ShowsReplaced (new.bricks k).store ask) (new.bricks k).outputs
  replies_after k =
      move_replies (λ by ask answer. answer ≡ Done → ShowsReplaced (new.bricks k).store ask) (otherwise k) (IsTaken m step k) (m.bricks k) (new.bricks k) (λ by ask rest front stored done. shows_now k ask stored)
      (replies_of (λ by ask answer. answer ≡ Done → ShowsReplaced (new.bricks k).store ask) (m.bricks k).outputs
      (λ by ask answer one done. shows_on k ask (reply_at (λ b a r. r ≡ Done → ShowsReplaced (m.bricks k).store a) by ask answer (m.bricks k).outputs (was.replies k) one done)))
      (bricks_move size m step allowed k)

  -- ---- copies that are under way

  runs_after : (t : ℕ) (run : CopyRun) → RunMove size m step t run → (i : ℕ) (cell : Cell) → run.replaced i cell ≡ true → HasCopy new i cell
  runs_after t run (RunMove.Stays is) i cell h = copy_stays i cell (was.runs t run is i cell h)
  runs_after t run (RunMove.Begins step_is may) i cell h = absurd (let e : false ≡ true = sym (ap (λ (f : ℕ → Cell → Bool). f i cell) may.not_replaced) ∙ h in cc)
  runs_after t run (RunMove.Clears step_is may is) i cell h = copy_stays i cell (was.runs t may.run may.turn i cell (sym (ap (λ (x : CopyRun). x.replaced i cell) is) ∙ h))
  runs_after t run (RunMove.Fetches k by at found before step_is handed txn stage is) i cell h = copy_stays i cell (was.runs t before stage i cell (sym (ap (λ (x : CopyRun). x.replaced i cell) is) ∙ h))
  runs_after t run (RunMove.Replaces k by at found answer before step_is handed txn stage is) i cell h = by_case (either_way (i == k && has_cell (at ∷ []) cell) (before.replaced i cell) (sym (ap (λ (x : CopyRun). x.replaced i cell) is) ∙ h)) where
    -- the brick that answers has a copy
    confirmed : HasCopy m k at
    confirmed = (subst (EachReply (λ b a r. r ≡ Done → ShowsReplaced (m.bricks k).store a)) handed.front (was.replies k)).0 (done_is answer handed.wanted)

    by_case : ((i == k && has_cell (at ∷ []) cell) ≡ true) ⊎ (before.replaced i cell ≡ true) → HasCopy new i cell
    by_case (inr old) = copy_stays i cell (was.runs t before stage i cell old)
    by_case (inl now) =
        let here : i ≡ k = eqb-true i k (both_left (i == k) (has_cell (at ∷ []) cell) now) in
        let same : cell ≡ at = cells_are cell at (sym (or_right (is_cell cell at)) ∙ both_right (i == k) (has_cell (at ∷ []) cell) now) in
        copy_stays i cell (subst (λ n. HasCopy m n cell) (sym here) (subst (λ c. HasCopy m k c) (sym same) confirmed))

  -- ---- clears that were confirmed

  replaced_on : (replaced : Cell → Bool) (cells : List Cell) (cell : Cell) → is_replaced replaced cells ≡ true → has_cell cells cell ≡ true → replaced cell ≡ true
  replaced_on replaced [] cell all has = absurd (let e : false ≡ true = has in cc)
  replaced_on replaced (c ∷ cs) cell all has = by_case (replaced_on replaced cs cell (both_right (replaced c) (is_replaced replaced cs) all)) (either_way (is_cell cell c) (has_cell cs cell) has) where
    by_case : (has_cell cs cell ≡ true → replaced cell ≡ true) → (is_cell cell c ≡ true) ⊎ (has_cell cs cell ≡ true) → replaced cell ≡ true
    by_case more (inl same) = ap replaced (cells_are cell c same) ∙ both_left (replaced c) (is_replaced replaced cs) all
    by_case more (inr later) = more later

  cleared_old : (p i k : ℕ) (cell : Cell) → 1 ≤ p → p ≤ m.ended → (new.phases p).cleared i cell k ≡ true → PhaseMove size m step p (new.phases p) → HasCopy new i cell
  cleared_old p i k cell one low h (PhaseMove.Clears j by cells who answer run step_is handed stage at is) = by_case (either_way (j == k && (is_confirmed_sink run i && has_cell run.cells cell)) ((m.phases p).cleared i cell k) (sym (ap (λ (q : Phase). q.cleared i cell k) is) ∙ h)) where
    by_case : ((j == k && (is_confirmed_sink run i && has_cell run.cells cell)) ≡ true) ⊎ ((m.phases p).cleared i cell k ≡ true) → HasCopy new i cell
    by_case (inr before) = copy_stays i cell (was.cleared p i k cell one low before)
    by_case (inl now) =
        let rest = both_right (j == k) (is_confirmed_sink run i && has_cell run.cells cell) now in
        let sink = both_left (is_confirmed_sink run i) (has_cell run.cells cell) rest in
        let has = both_right (is_confirmed_sink run i) (has_cell run.cells cell) rest in
        copy_stays i cell (was.runs by.txn run stage i cell (replaced_on (run.replaced i) run.cells cell (both_right (run.sinks i) (is_replaced (run.replaced i) run.cells) sink) has))
  cleared_old p i k cell one low h (PhaseMove.Reaches t step_is may at is) = absurd (omega (arith, at, low))
  cleared_old p i k cell one low h (PhaseMove.Same is) = copy_stays i cell (was.cleared p i k cell one low (sym (ap (λ (q : Phase). q.cleared i cell k) is) ∙ h))
  cleared_old p i k cell one low h (PhaseMove.Marks t step_is may at is) = copy_stays i cell (was.cleared p i k cell one low (sym (ap (λ (q : Phase). q.cleared i cell k) is) ∙ h))
  cleared_old p i k cell one low h (PhaseMove.Posts t step_is may at is) = copy_stays i cell (was.cleared p i k cell one low (sym (ap (λ (q : Phase). q.cleared i cell k) is) ∙ h))
  cleared_old p i k cell one low h (PhaseMove.SettlesAs t group adopts step_is may at is) = copy_stays i cell (was.cleared p i k cell one low (sym (ap (λ (q : Phase). q.cleared i cell k) is) ∙ h))
  cleared_old p i k cell one low h (PhaseMove.Asks t j first ask step_is may w at is) = copy_stays i cell (was.cleared p i k cell one low (sym (ap (λ (q : Phase). q.cleared i cell k) is) ∙ h))
  cleared_old p i k cell one low h (PhaseMove.Confirms j by ask answer step_is handed at is) = copy_stays i cell (was.cleared p i k cell one low (sym (ap (λ (q : Phase). q.cleared i cell k) is) ∙ h))

  cleared_after : (p i k : ℕ) (cell : Cell) → 1 ≤ p → (new.phases p).cleared i cell k ≡ true → PhaseFrom size m new p → HasCopy new i cell
  cleared_after p i k cell one h (Old low) = cleared_old p i k cell one low h (phase_moves size m step allowed p)
  cleared_after p i k cell one h (Now t may at phase_is bricks) = absurd (let no : false ≡ true = sym (ap (λ (q : Phase). q.cleared i cell k) phase_is) ∙ h in cc)

-- ---- every list of steps

pub replaced_have_copies : EveryReplacedHasCopy
replaced_have_copies size m IsReached.Start = record {
  replies = λ k. tt;
  runs = λ t run copies. absurd (let e : false ≡ true = ap is_copying copies in cc);
  cleared = λ p i k cell one low h. absurd (omega (arith, one, low));
}
replaced_have_copies size m (IsReached.Further old step reached allowed) = record {
  replies = replies_after size old (replaced_have_copies size old reached) step allowed;
  runs = λ t run copies. runs_after size old (replaced_have_copies size old reached) step allowed t run (run_moves size old step allowed t run copies);
  cleared = λ p i k cell one low h. cleared_after size old (replaced_have_copies size old reached) step allowed p i k cell one h (phase_from size old step allowed p low);
}
