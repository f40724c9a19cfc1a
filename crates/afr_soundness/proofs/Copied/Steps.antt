-- What was fetched, and what sinks confirmed, stands while its transaction holds its lock, over every list of steps.
use Rattle.std.proofs.Common.{◌≡◌, ◌∙◌, ℕ, Bool, true, false, refl, sym, ap, subst, ◌⊎◌, inl, inr, Option, Some, None}
use Rattle.std.specs.Prelude.{if◌then◌else◌, List, [], ◌∷◌, ◌++◌, ◌&&◌, ◌==◌, is_none}
use Rattle.std.proofs.lemmas.Bool.{eq-eqb, eqb-true}
use Rattle.fop_types.specs.declared.cells.Cell.{Cell}
use Rattle.fop_types.specs.declared.contents.Row.{Row}
use Rattle.fop_types.specs.declared.jobs.Job.{Job}
use Rattle.afr_machine.specs.Replicas.{Size, Replicas}
use Rattle.afr_machine.specs.Touching.{is_cell, has_cell}
use Rattle.afr_machine.specs.Copies.{Store, Fetched}
use Rattle.afr_machine.specs.Requests.{Sender, Ask, Answer}
use Rattle.afr_machine.specs.Requests.Ask.{Fetch, Replace}
use Rattle.afr_machine.specs.Requests.Answer.{Done, Rows, Content, Gone}
use Rattle.afr_machine.specs.Bricks.{stored_by, answer_of, answer_of_fetch}
use Rattle.afr_machine.specs.Transactions.{CopyRun, Stage}
use Rattle.afr_machine.specs.Transactions.Stage.{Copying}
use Rattle.afr_machine.specs.States.{State, is_current}
use Rattle.afr_machine.specs.Answering.{with_first, is_single}
use Rattle.afr_machine.specs.Turns.{IsAnswered}
use Rattle.afr_machine.specs.Steps.{Step, Allowed, after, IsReached, IsRefusal}
use Rattle.afr_machine.specs.Moves.{IsTaken}
use Rattle.afr_machine.proofs.BrickMoves.{bricks_move}
use Rattle.afr_laws.specs.Numbered.{IsNumbered}
use Rattle.afr_laws.specs.Flights.{is_mine, in_outputs}
use Rattle.afr_laws.specs.Asking.{IsAskedBy}
use Rattle.afr_laws.specs.Fresh.{is_behind}
use Rattle.afr_laws.proofs.Bools.{apart_bools, both_left, both_right, either_way, or_right}
use Rattle.afr_laws.proofs.Sharing.{cells_are}
use Rattle.afr_laws.proofs.Flying.{on_their_way}
use Rattle.afr_laws.proofs.Waiting.{waits_fit}
use Rattle.afr_laws.proofs.Heard.{is_open_first}
use Rattle.afr_laws.proofs.Standing.Steps.{links_back}
use Rattle.afr_soundness.specs.Replies.{IsReplyIn}
use Rattle.afr_soundness.specs.Copied.{copy_in, is_copying, Uses, ShowsCopy, AnswersShowCopies, IsFetched, IsReplacedAt, CopiesStand, EveryCopyStands}
use Rattle.afr_soundness.proofs.PhaseMoves.{IsHandedIn}
use Rattle.afr_soundness.proofs.Replies.{done_is, reply_at, replies_of, HoldsOtherwise, move_replies, reply_numbered, IsIn, reply_flies}
use Rattle.afr_soundness.proofs.RunMoves.{RunMove, run_moves}
use Rattle.afr_soundness.proofs.Replaced.Steps.{is_itself}
use Rattle.afr_soundness.proofs.Takers.Asked.{asked_are_members}
use Rattle.afr_soundness.proofs.Copied.Stores.{stored_puts}
use Rattle.afr_soundness.proofs.Copied.Lines.{AllAsks, all_left, all_asked, waits_for}
use Rattle.afr_soundness.proofs.Copied.Kept.{sources_apart, out_back, uses_back, copy_follows}

-- ---- an answer on its way to a transaction that uses the brick

pub all_at : (P : Ask → Type 0) (ask : Ask) (asks : List Ask) → AllAsks P asks → IsIn ask asks → P ask
all_at P ask [] h is = absurd is
all_at P ask (a ∷ as1) h (inl is) = subst P (sym is) h.0
all_at P ask (a ∷ as1) h (inr is) = all_at P ask as1 h.1 is

none_in : (ask : Ask) (asks : List Ask) → IsIn ask asks → asks ≡ [] → ⊥
none_in ask asks is none = absurd (subst (IsIn ask) none is)

record HasRun (stage : Stage) : Type 0 where
  run : CopyRun
  is : stage ≡ Copying run

pub record IsAskedNow (size : Size) (m : State) (k : ℕ) (by : Sender) (ask : Ask) : Type 0 where
  pub waits : (m.txns by.txn).waits k ≡ true
  pub asked : IsAskedBy size m.changes (m.txns by.txn).job (m.txns by.txn).stage k ask

module _ (size : Size) (m : State) (r : IsReached size m) (k : ℕ) (by : Sender) (ask : Ask) (answer : Answer) (reply : IsReplyIn by ask answer (m.bricks k).outputs) (current : is_current (m.links k by.graph) by.connection ≡ true) (used : (m.txns by.txn).out k ≡ false) (plain : is_open_first ask ≡ false) where
  n : IsNumbered m k by ask
  n = reply_numbered size m r k by ask answer reply

  mine : is_mine by.txn (m.links k (m.txns by.txn).graph) by ≡ true
  mine = ap (λ b. b && is_current (m.links k (m.txns by.txn).graph) by.connection) (eq-eqb by.txn by.txn refl) ∙ ap (λ g. is_current (m.links k g) by.connection) (sym n.graph) ∙ current

  flies : IsIn ask (in_outputs (is_mine by.txn (m.links k (m.txns by.txn).graph)) (m.bricks k).outputs)
  flies = reply_flies (is_mine by.txn (m.links k (m.txns by.txn).graph)) by ask answer (m.bricks k).outputs mine reply

  pub asked_now : IsAskedNow size m k by ask
  asked_now = record {
    waits = waits_for size m r by.txn k used (λ none. none_in ask (in_outputs (is_mine by.txn (m.links k (m.txns by.txn).graph)) (m.bricks k).outputs) flies (empty_left (in_outputs (is_mine by.txn (m.links k (m.txns by.txn).graph)) (m.bricks k).outputs) _ ((on_their_way size m r).known by.txn k ∙ none)));
    asked = all_at (λ a. is_open_first a ≡ false → IsAskedBy size m.changes (m.txns by.txn).job (m.txns by.txn).stage k a) ask (in_outputs (is_mine by.txn (m.links k (m.txns by.txn).graph)) (m.bricks k).outputs)
        (all_left (λ a. is_open_first a ≡ false → IsAskedBy size m.changes (m.txns by.txn).job (m.txns by.txn).stage k a) (in_outputs (is_mine by.txn (m.links k (m.txns by.txn).graph)) (m.bricks k).outputs) _
        (subst (AllAsks (λ a. is_open_first a ≡ false → IsAskedBy size m.changes (m.txns by.txn).job (m.txns by.txn).stage k a)) (sym ((on_their_way size m r).known by.txn k)) (all_asked size m r by.txn k used))) flies plain;
  }
    where
      empty_left : (xs ys : List Ask) → (xs ++ ys) ≡ [] → xs ≡ []
      empty_left [] ys e = refl
      empty_left (x ∷ xs) ys e = absurd (let no : (x ∷ (xs ++ ys)) ≡ [] = e in cc)

-- ---- one step

fetched_keeps : (table : Cell → Option Fetched) (at cell : Cell) (new found : Fetched) → table cell ≡ Some found → with_first table at new cell ≡ Some found
fetched_keeps table at cell new found h =
    ap (λ o. if has_cell (at ∷ []) cell && is_none o then Some new else o) h ∙ by_case (has_cell (at ∷ []) cell) where
      by_case : (b : Bool) → (if b && false then Some new else Some found) ≡ Some found
      by_case true = refl
      by_case false = refl

-- what was fetched was before, or is what comes now
pub fetched_from : (table : Cell → Option Fetched) (at cell : Cell) (new found : Fetched) → with_first table at new cell ≡ Some found → (table cell ≡ Some found) ⊎ ((cell ≡ at) × (new ≡ found))
fetched_from table at cell new found h = by_case (has_cell (at ∷ []) cell) refl (table cell) refl where
  by_case : (b : Bool) → has_cell (at ∷ []) cell ≡ b → (o : Option Fetched) → table cell ≡ o → (table cell ≡ Some found) ⊎ ((cell ≡ at) × (new ≡ found))
  by_case true here None is = inr (cells_are cell at (sym (or_right (is_cell cell at)) ∙ here), (let e : Some new ≡ Some found = sym (ap (λ b. if b && is_none (table cell) then Some new else table cell) here ∙ ap (λ o. if true && is_none o then Some new else o) is) ∙ h in cc))
  by_case true here (Some old) is = inl (is ∙ (sym (ap (λ b. if b && is_none (table cell) then Some new else table cell) here ∙ ap (λ o. if true && is_none o then Some new else o) is) ∙ h))
  by_case false other o is = inl (sym (ap (λ b. if b && is_none (table cell) then Some new else table cell) other) ∙ h)

module _ (size : Size) (m : State) (r : IsReached size m) (was : CopiesStand m) (step : Step) (allowed : Allowed size m step) where
  abbrev new : State
  new = after size m step

  -- ---- answers

  pub record WasCopying (t k : ℕ) (ask : Ask) : Type 0 where
    pub run : CopyRun
    pub stage : (m.txns t).stage ≡ Copying run
    pub asked : IsAskedBy size m.changes (m.txns t).job (Copying run) k ask

  run_of : (stage : Stage) → is_copying stage ≡ true → HasRun stage
  run_of (Copying run) h = record { run = run; is = refl }
  run_of other h = absurd (let e : false ≡ true = h in cc)

  -- a transaction that waits for the answer goes on in its stage
  was_copying : (k : ℕ) (by : Sender) (ask : Ask) (answer : Answer) → is_open_first ask ≡ false → IsReplyIn by ask answer (m.bricks k).outputs → is_current (new.links k by.graph) by.connection ≡ true → Uses new by.txn k → WasCopying by.txn k ask
  was_copying k by ask answer plain reply current_now u = by_move (run_moves size m step allowed by.txn now.run now.is) where
    now : HasRun (new.txns by.txn).stage
    now = run_of (new.txns by.txn).stage u.copying

    n : IsNumbered m k by ask
    n = reply_numbered size m r k by ask answer reply

    a : IsAskedNow size m k by ask
    a = asked_now size m r k by ask answer reply (links_back size m step allowed k by.graph by.connection n.connection current_now) (out_back size m r step allowed by.txn n.begun k u.not_out) plain

    still : (run : CopyRun) → (m.txns by.txn).stage ≡ Copying run → WasCopying by.txn k ask
    still run is = record { run = run; stage = is; asked = subst (λ s. IsAskedBy size m.changes (m.txns by.txn).job s k ask) is a.asked }

    answered : IsAnswered size (m.txns by.txn) → WasCopying by.txn k ask
    answered h = apart_bools a.waits (h.waits k (waits_fit size m r by.txn k a.waits).replica)

    by_move : RunMove size m step by.txn now.run → WasCopying by.txn k ask
    by_move (RunMove.Stays is) = still now.run is
    by_move (RunMove.Begins step_is h) = answered h.answered
    by_move (RunMove.Clears step_is h is) = still h.run h.turn
    by_move (RunMove.Fetches j other cell found before step_is h txn is run_is) = still before is
    by_move (RunMove.Replaces j other cell found r1 before step_is h txn is run_is) = still before is

  -- a fetch goes to a source
  asked_source : (k : ℕ) (own : Job) (run : CopyRun) (cell : Cell) → IsAskedBy size m.changes own (Copying run) k (Fetch cell) → (run.clears ≡ false) × ((has_cell run.cells cell ≡ true) × (run.sources k ≡ true))
  asked_source k own run cell (inl locked) = absurd (let e : Copying run ≡ Stage.Locked = locked.0 in cc)
  asked_source k own run cell (inr fetches) = fetches

  shows_on : (k : ℕ) (by : Sender) (ask : Ask) (answer : Answer) → IsReplyIn by ask answer (m.bricks k).outputs → ShowsCopy m k by ask answer → ShowsCopy new k by ask answer
  shows_on k by (Fetch cell) (Content found) reply h = λ current u.
      let w = was_copying k by (Fetch cell) (Content found) refl reply current u in
      let back = uses_back size m r step allowed by.txn w.run w.stage k u in
      let fetching = asked_source k (m.txns by.txn).job w.run cell w.asked in
      copy_follows size m r step allowed by.txn w.run w.stage k cell fetching.1.0 found (λ other sink fetched. absurd (sources_apart size m r by.txn w.run w.stage k fetching.1.1 sink)) back
      (h (links_back size m step allowed k by.graph by.connection (reply_numbered size m r k by (Fetch cell) (Content found) reply).connection current) back)
  shows_on k by (Replace cell found) Done reply h = λ current u.
      let w = was_copying k by (Replace cell found) Done refl reply current u in
      let back = uses_back size m r step allowed by.txn w.run w.stage k u in
      copy_follows size m r step allowed by.txn w.run w.stage k cell w.asked.1.0 found (λ other sink fetched. (let e : Some other ≡ Some found = sym fetched ∙ w.asked.1.1.1 in cc)) back
      (h (links_back size m step allowed k by.graph by.connection (reply_numbered size m r k by (Replace cell found) Done reply).connection current) back)
  shows_on k by ask answer reply h = tt

  abbrev Shows : ℕ → Sender → Ask → Answer → Type 0
  Shows k by ask answer = ShowsCopy (after size m step) k by ask answer

  gone_shows : (k : ℕ) (by : Sender) (ask : Ask) → Shows k by ask Gone
  gone_shows k by (Fetch cell) = tt
  gone_shows k by (Replace cell found) = tt
  gone_shows k by other = tt

  rows_show : (k : ℕ) (by : Sender) (ask : Ask) (rows : Cell → Row) → Shows k by ask (Rows rows)
  rows_show k by (Fetch cell) rows = tt
  rows_show k by (Replace cell found) rows = tt
  rows_show k by other rows = tt

  refused_shows : (k : ℕ) (by : Sender) (ask : Ask) (answer : Answer) → IsRefusal answer → Shows k by ask answer
  refused_shows k by (Fetch cell) (Content found) h = absurd h
  refused_shows k by (Replace cell found) Done h = absurd h
  refused_shows k by ask answer h = tt

  otherwise : (k : ℕ) → HoldsOtherwise (Shows k)
  otherwise k = record { gone = gone_shows k; rows = rows_show k; unlock = λ by. tt; refused = refused_shows k }

  -- the request is served now
  shows_now : (k : ℕ) (by : Sender) (ask : Ask) → (new.bricks k).store ≡ stored_by ask (m.bricks k).store → Shows k by ask (answer_of ask (m.bricks k).store)
  shows_now k by (Fetch cell) stored = by_copy (copy_in (m.bricks k).store cell) refl where
    by_copy : (o : Option Fetched) → copy_in (m.bricks k).store cell ≡ o → Shows k by (Fetch cell) (answer_of_fetch o)
    by_copy None is = tt
    by_copy (Some found) is = λ current u. ap (λ (st : Store). copy_in st cell) stored ∙ is
  shows_now k by (Replace cell found) stored = λ current u. ap (λ (st : Store). copy_in st cell) stored ∙ stored_puts (m.bricks k).store cell cell found (or_right (is_cell cell cell) ∙ is_itself cell)
  shows_now k by other stored = tt

  answers_after : AnswersShowCopies new
  answers_after k =
      move_replies (Shows k) (otherwise k) (IsTaken m step k) (m.bricks k) (new.bricks k) (λ by ask rest front stored. shows_now k by ask stored)
      (replies_of (Shows k) (m.bricks k).outputs (λ by ask answer reply. shows_on k by ask answer reply (reply_at (ShowsCopy m k) by ask answer (m.bricks k).outputs (was.answers k) reply)))
      (bricks_move size m step allowed k)

  -- ---- copies that are under way

  module _ (t : ℕ) (run before : CopyRun) (is : (m.txns t).stage ≡ Copying before) where
    -- of a source, and of a sink that confirmed
    fetched_stays : (cell : Cell) (found : Fetched) → run.sources ≡ before.sources → run.cells ≡ before.cells → IsFetched m t before cell found → IsFetched new t run cell found
    fetched_stays cell found same cells h = record {
      of_run = ap (λ cs. has_cell cs cell) cells ∙ h.of_run;
      source = h.source;
      is_source = ap (λ (f : Replicas). f h.source) same ∙ h.is_source;
      stands = λ u.
          let back = uses_back size m r step allowed t before is h.source u in
          copy_follows size m r step allowed t before is h.source cell h.of_run found (λ other sink fetched. absurd (sources_apart size m r t before is h.source h.is_source sink)) back (h.stands back);
    }

    replaced_stays : (k : ℕ) (cell : Cell) → run.sinks ≡ before.sinks → ((found : Fetched) → before.fetched cell ≡ Some found → run.fetched cell ≡ Some found) → run.cells ≡ before.cells → IsReplacedAt m t k before cell → IsReplacedAt new t k run cell
    replaced_stays k cell same more cells h = record {
      of_run = ap (λ cs. has_cell cs cell) cells ∙ h.of_run;
      is_sink = ap (λ (f : Replicas). f k) same ∙ h.is_sink;
      found = h.found;
      fetched = more h.found h.fetched;
      stands = λ u.
          let back = uses_back size m r step allowed t before is k u in
          copy_follows size m r step allowed t before is k cell h.of_run h.found (λ other sink fetched. (let e : Some other ≡ Some h.found = sym fetched ∙ h.fetched in cc)) back (h.stands back);
    }

  -- an answer that its transaction waits for, and what its stage asked for
  module _ (k : ℕ) (by : Sender) (ask : Ask) (answer : Answer) (before : CopyRun) (h : IsHandedIn m k by ask answer) (is : (m.txns by.txn).stage ≡ Copying before) where
    reply : IsReplyIn by ask answer (m.bricks k).outputs
    reply = subst (IsReplyIn by ask answer) (sym h.front) (inl (refl, (refl, refl)))

    used : (m.txns by.txn).out k ≡ false
    used = (asked_are_members size m r by.txn k (ap is_behind is) (both_left ((m.txns by.txn).waits k) (is_single ((m.txns by.txn).flying k)) h.awaited)).not_out

    asked_then : is_open_first ask ≡ false → IsAskedBy size m.changes (m.txns by.txn).job (Copying before) k ask
    asked_then plain = subst (λ s. IsAskedBy size m.changes (m.txns by.txn).job s k ask) is (asked_now size m r k by ask answer reply h.current used plain).asked

    shown : ShowsCopy m k by ask answer
    shown = reply_at (ShowsCopy m k) by ask answer (m.bricks k).outputs (was.answers k) reply

  -- it is fetched now
  fetches_now : (k : ℕ) (by : Sender) (cell : Cell) (found : Fetched) (before run : CopyRun) → IsHandedIn m k by (Fetch cell) (Content found) → (m.txns by.txn).stage ≡ Copying before → run.cells ≡ before.cells → run.sources ≡ before.sources → IsFetched new by.txn run cell found
  fetches_now k by cell found before run h is cells sources =
      let a = asked_source k (m.txns by.txn).job before cell (asked_then k by (Fetch cell) (Content found) before h is refl) in
      record {
        of_run = ap (λ cs. has_cell cs cell) cells ∙ a.1.0;
        source = k;
        is_source = ap (λ (f : Replicas). f k) sources ∙ a.1.1;
        stands = λ u.
            let back = uses_back size m r step allowed by.txn before is k u in
            copy_follows size m r step allowed by.txn before is k cell a.1.0 found (λ other sink fetched. absurd (sources_apart size m r by.txn before is k a.1.1 sink)) back (shown k by (Fetch cell) (Content found) before h is h.current back);
      }

  -- a sink confirms it now
  replaces_now : (k : ℕ) (by : Sender) (cell : Cell) (found : Fetched) (answer : Answer) (before run : CopyRun) → answer ≡ Done → IsHandedIn m k by (Replace cell found) answer → (m.txns by.txn).stage ≡ Copying before → run.cells ≡ before.cells → run.sinks ≡ before.sinks → run.fetched ≡ before.fetched → IsReplacedAt new by.txn k run cell
  replaces_now k by cell found answer before run done h is cells sinks same =
      let a = asked_then k by (Replace cell found) answer before h is refl in
      record {
        of_run = ap (λ cs. has_cell cs cell) cells ∙ a.1.0;
        is_sink = ap (λ (f : Replicas). f k) sinks ∙ a.1.1.0;
        found = found;
        fetched = ap (λ (f : Cell → Option Fetched). f cell) same ∙ a.1.1.1;
        stands = λ u.
            let back = uses_back size m r step allowed by.txn before is k u in
            copy_follows size m r step allowed by.txn before is k cell a.1.0 found (λ other sink fetched. (let e : Some other ≡ Some found = sym fetched ∙ a.1.1.1 in cc)) back
            ((subst (λ (b : Answer). ShowsCopy m k by (Replace cell found) b) done (shown k by (Replace cell found) answer before h is)) h.current back);
      }

  fetched_after : (t : ℕ) (run : CopyRun) → RunMove size m step t run → (cell : Cell) (found : Fetched) → run.fetched cell ≡ Some found → IsFetched new t run cell found
  fetched_after t run (RunMove.Stays is) cell found h = fetched_stays t run run is cell found refl refl (was.fetched t run is cell found h)
  fetched_after t run (RunMove.Begins step_is may) cell found h = absurd (let e : None ≡ Some found = sym (ap (λ (f : Cell → Option Fetched). f cell) may.not_fetched) ∙ h in cc)
  fetched_after t run (RunMove.Clears step_is may is) cell found h =
      fetched_stays t run may.run may.turn cell found (ap (λ (x : CopyRun). x.sources) is) (ap (λ (x : CopyRun). x.cells) is) (was.fetched t may.run may.turn cell found (sym (ap (λ (x : CopyRun). x.fetched cell) is) ∙ h))
  fetched_after t run (RunMove.Fetches k by at new_copy before step_is handed txn stage is) cell found h = by_case (fetched_from before.fetched at cell new_copy found (sym (ap (λ (x : CopyRun). x.fetched cell) is) ∙ h)) where
    by_case : (before.fetched cell ≡ Some found) ⊎ ((cell ≡ at) × (new_copy ≡ found)) → IsFetched new t run cell found
    by_case (inl old) = fetched_stays t run before stage cell found (ap (λ (x : CopyRun). x.sources) is) (ap (λ (x : CopyRun). x.cells) is) (was.fetched t before stage cell found old)
    by_case (inr now) =
        subst (λ i. IsFetched new i run cell found) txn (subst (λ c. IsFetched new by.txn run c found) (sym now.0) (subst (λ f. IsFetched new by.txn run at f) now.1
        (fetches_now k by at new_copy before run handed (subst (λ i. (m.txns i).stage ≡ Copying before) (sym txn) stage) (ap (λ (x : CopyRun). x.cells) is) (ap (λ (x : CopyRun). x.sources) is))))
  fetched_after t run (RunMove.Replaces k by at new_copy answer before step_is handed txn stage is) cell found h =
      fetched_stays t run before stage cell found (ap (λ (x : CopyRun). x.sources) is) (ap (λ (x : CopyRun). x.cells) is) (was.fetched t before stage cell found (sym (ap (λ (x : CopyRun). x.fetched cell) is) ∙ h))

  replaced_after : (t : ℕ) (run : CopyRun) → RunMove size m step t run → (j : ℕ) (cell : Cell) → run.replaced j cell ≡ true → IsReplacedAt new t j run cell
  replaced_after t run (RunMove.Stays is) j cell h = replaced_stays t run run is j cell refl (λ found e. e) refl (was.replaced t run is j cell h)
  replaced_after t run (RunMove.Begins step_is may) j cell h = absurd (let e : false ≡ true = sym (ap (λ (f : ℕ → Cell → Bool). f j cell) may.not_replaced) ∙ h in cc)
  replaced_after t run (RunMove.Clears step_is may is) j cell h =
      replaced_stays t run may.run may.turn j cell (ap (λ (x : CopyRun). x.sinks) is) (λ found e. ap (λ (x : CopyRun). x.fetched cell) is ∙ e) (ap (λ (x : CopyRun). x.cells) is) (was.replaced t may.run may.turn j cell (sym (ap (λ (x : CopyRun). x.replaced j cell) is) ∙ h))
  replaced_after t run (RunMove.Fetches k by at new_copy before step_is handed txn stage is) j cell h =
      replaced_stays t run before stage j cell (ap (λ (x : CopyRun). x.sinks) is) (λ found e. ap (λ (x : CopyRun). x.fetched cell) is ∙ fetched_keeps before.fetched at cell new_copy found e) (ap (λ (x : CopyRun). x.cells) is)
      (was.replaced t before stage j cell (sym (ap (λ (x : CopyRun). x.replaced j cell) is) ∙ h))
  replaced_after t run (RunMove.Replaces k by at new_copy answer before step_is handed txn stage is) j cell h = by_case (either_way (j == k && has_cell (at ∷ []) cell) (before.replaced j cell) (sym (ap (λ (x : CopyRun). x.replaced j cell) is) ∙ h)) where
    by_case : ((j == k && has_cell (at ∷ []) cell) ≡ true) ⊎ (before.replaced j cell ≡ true) → IsReplacedAt new t j run cell
    by_case (inr old) = replaced_stays t run before stage j cell (ap (λ (x : CopyRun). x.sinks) is) (λ found e. ap (λ (x : CopyRun). x.fetched cell) is ∙ e) (ap (λ (x : CopyRun). x.cells) is) (was.replaced t before stage j cell old)
    by_case (inl now) =
        let here : j ≡ k = eqb-true j k (both_left (j == k) (has_cell (at ∷ []) cell) now) in
        let same : cell ≡ at = cells_are cell at (sym (or_right (is_cell cell at)) ∙ both_right (j == k) (has_cell (at ∷ []) cell) now) in
        subst (λ i. IsReplacedAt new i j run cell) txn (subst (λ c. IsReplacedAt new by.txn j run c) (sym same) (subst (λ i. IsReplacedAt new by.txn i run at) (sym here)
        (replaces_now k by at new_copy answer before run (done_is answer handed.wanted) handed (subst (λ i. (m.txns i).stage ≡ Copying before) (sym txn) stage) (ap (λ (x : CopyRun). x.cells) is) (ap (λ (x : CopyRun). x.sinks) is) (ap (λ (x : CopyRun). x.fetched) is))))

-- ---- every list of steps

pub copies_stand : EveryCopyStands
copies_stand size m IsReached.Start = record {
  answers = λ k. tt;
  fetched = λ t run copies. absurd (let e : false ≡ true = ap is_copying copies in cc);
  replaced = λ t run copies. absurd (let e : false ≡ true = ap is_copying copies in cc);
}
copies_stand size m (IsReached.Further old step reached allowed) = record {
  answers = answers_after size old reached (copies_stand size old reached) step allowed;
  fetched = λ t run copies. fetched_after size old reached (copies_stand size old reached) step allowed t run (run_moves size old step allowed t run copies);
  replaced = λ t run copies. replaced_after size old reached (copies_stand size old reached) step allowed t run (run_moves size old step allowed t run copies);
}
