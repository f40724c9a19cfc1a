-- What a copy has fetched bears the numbers of a brick's copy: replies and turns.
use Rattle.std.proofs.Common.{◌≡◌, ◌∙◌, ℕ, Bool, true, false, refl, sym, ap, subst, Option, Some, None}
use Rattle.std.specs.Prelude.{if◌then◌else◌, List, [], ◌∷◌, ◌&&◌, is_none}
use Rattle.fop_types.specs.declared.cells.Cell.{Cell}
use Rattle.fop_types.specs.declared.jobs.Job.{Job}
use Rattle.fop_types.specs.declared.jobs.Job.TheVariants as job
use Rattle.afr_machine.specs.Replicas.{Size, Replicas, with_at}
use Rattle.afr_machine.specs.Touching.{is_cell, has_cell}
use Rattle.afr_machine.specs.Copies.{Fetched}
use Rattle.afr_machine.specs.Requests.{Sender, Ask, Answer, Output}
use Rattle.afr_machine.specs.Requests.Ask.{Lock, Fetch, Replace}
use Rattle.afr_machine.specs.Requests.Answer.{Rows, Content}
use Rattle.afr_machine.specs.Requests.Output.{Answered, Closed, Opened, Connected}
use Rattle.afr_machine.specs.Changes.{Change}
use Rattle.afr_machine.specs.Transactions.{Work, Stage, Txn, CopyRun}
use Rattle.afr_machine.specs.Transactions.Work.{Own, Settles}
use Rattle.afr_machine.specs.Transactions.Stage.{Locking, Applying, Marking, Copying}
use Rattle.afr_machine.specs.States.{State, is_current}
use Rattle.afr_machine.specs.Answering.{is_wanted, passed, missing, granting, having, fetching, replacing, taking, hearing, with_first, at_rest, forgetting, replied, taken_in}
use Rattle.afr_machine.specs.Turns.{Turn, MayTurn, after_turn, locking_for, skipping, drawing, posting, settling, bearing, clearing}
use Rattle.afr_machine.specs.Steps.{take_in_front, unsettling}
use Rattle.afr_laws.specs.Copies.{IsFound, Shows, RunShows, EachAnswer}
use Rattle.afr_laws.proofs.Bools.{both_left, or_right}
use Rattle.afr_laws.proofs.Carry.{at_case}
use Rattle.afr_laws.proofs.Heard.{Heard, replied_txns}
use Rattle.afr_laws.proofs.Heard.Heard.{Took, Passed, OpenDone, OpenMissed}
use Rattle.afr_laws.proofs.Sharing.{cells_are}

module _ (changes : ℕ → Change) where
  passed_run : (stage : Stage) → RunShows changes stage → RunShows changes (passed stage)
  passed_run (Copying run) s = s
  passed_run other s = tt

  -- ---- a reply

  first_shows : (table : Cell → Option Fetched) (cell : Cell) (found : Fetched) → IsFound changes cell found → ((c : Cell) (f : Fetched) → table c ≡ Some f → IsFound changes c f) →
      (c : Cell) (f : Fetched) → with_first table cell found c ≡ Some f → IsFound changes c f
  first_shows table cell found n old c f = by_case (has_cell (cell ∷ []) c && is_none (table c)) refl where
    by_case : (b : Bool) → (has_cell (cell ∷ []) c && is_none (table c)) ≡ b → (if b then Some found else table c) ≡ Some f → IsFound changes c f
    by_case true e is =
        let same : c ≡ cell = cells_are c cell (sym (or_right (is_cell c cell)) ∙ both_left _ _ e) in
        let found_is : found ≡ f = cc in
        subst (λ x. IsFound changes x f) (sym same) (subst (IsFound changes cell) found_is n)
    by_case false e is = old c f is

  module _ (x : Txn) (k connection : ℕ) where
    fetching_run : (stage : Stage) (cell : Cell) (found : Fetched) → x.stage ≡ stage → IsFound changes cell found → RunShows changes x.stage → RunShows changes (fetching x stage cell found).stage
    fetching_run (Copying run) cell found is n s = first_shows run.fetched cell found n (subst (RunShows changes) is s)
    fetching_run other cell found is n s = s

    having_run : (cell : Cell) (answer : Answer) → Shows changes (Fetch cell) answer → RunShows changes x.stage → RunShows changes (having x cell answer).stage
    having_run cell (Content found) n s = fetching_run x.stage cell found refl n s
    having_run cell other n s = s

    granting_run : (shared : Bool) (cells : List Cell) (answer : Answer) → RunShows changes x.stage → RunShows changes (granting x k connection shared cells answer).stage
    granting_run shared cells (Rows rows) s = passed_run x.stage s
    granting_run shared cells other s = s

    replacing_run : (stage : Stage) (cell : Cell) → x.stage ≡ stage → RunShows changes x.stage → RunShows changes (replacing x stage k cell).stage
    replacing_run (Copying run) cell is s = subst (RunShows changes) is s
    replacing_run other cell is s = s

    taking_run : (ask : Ask) (answer : Answer) → Shows changes ask answer → RunShows changes x.stage → RunShows changes (taking x k connection ask answer).stage
    taking_run (Lock shared cells) answer n s = granting_run shared cells answer s
    taking_run (Fetch cell) answer n s = having_run cell answer n s
    taking_run (Replace cell found) answer n s = replacing_run x.stage cell refl s
    taking_run other answer n s = s

    hearing_run : (ask : Ask) (answer : Answer) → Shows changes ask answer → RunShows changes x.stage → RunShows changes (hearing x k connection ask answer).stage
    hearing_run ask answer n s = by_case (is_wanted ask answer) where
      by_case : (b : Bool) → RunShows changes (if b then taking x k connection ask answer else missing x k).stage
      by_case true = taking_run ask answer n s
      by_case false = passed_run x.stage s

  heard_run : (x y : Txn) (k connection : ℕ) (ask : Ask) (answer : Answer) → Heard x y k connection ask answer → Shows changes ask answer → RunShows changes x.stage → RunShows changes y.stage
  heard_run x y k connection ask answer (Took plain waits same is) n s = subst (λ (z : Txn). RunShows changes z.stage) (sym is) (hearing_run (at_rest x k) k connection ask answer n s)
  heard_run x y k connection ask answer (Passed plain passes is) n s = subst (RunShows changes) (sym (ap (λ (z : Txn). z.stage) is)) s
  heard_run x y k connection ask answer (OpenDone opens is) n s = subst (RunShows changes) (sym (ap (λ (z : Txn). z.stage) is)) s
  heard_run x y k connection ask answer (OpenMissed opens is) n s = subst (RunShows changes) (sym (ap (λ (z : Txn). z.stage) is)) s

-- ---- the state

abbrev pub RunsShow : (ℕ → Change) → (ℕ → Txn) → Type 0
RunsShow changes txns = (t : ℕ) → RunShows changes (txns t).stage

module _ (m : State) (s : RunsShow m.changes m.txns) where
  forgotten_run : (ends : ℕ → Bool) (k i : ℕ) → RunShows m.changes (forgetting ends k (m.txns i)).stage
  forgotten_run ends k i = by_case (ends (m.txns i).graph) where
    by_case : (b : Bool) → RunShows m.changes (if b then record (m.txns i) { flying = with_at (m.txns i).flying k [] } else m.txns i).stage
    by_case true = s i
    by_case false = s i

  pub cut_runs : (ends : ℕ → Bool) (k : ℕ) → RunsShow m.changes (λ t. forgetting ends k (m.txns t))
  cut_runs ends k = forgotten_run ends k

  replied_run : (k : ℕ) (by : Sender) (ask : Ask) (answer : Answer) → Shows m.changes ask answer → RunsShow m.changes (replied m k by ask answer).txns
  replied_run k by ask answer n i =
      let p = replied_txns m k by ask answer in
      subst (λ (f : ℕ → Txn). RunShows m.changes (f i).stage) (sym p.is)
      (at_case (λ j (y : Txn). RunShows m.changes y.stage) m.txns by.txn p.after (heard_run m.changes (m.txns by.txn) p.after k by.connection ask answer p.heard n (s by.txn)) i (λ ne. s i))

  taken_run : (k : ℕ) (o : Output) → EachAnswer (Shows m.changes) (o ∷ []) → RunsShow m.changes (taken_in m k o).txns
  taken_run k (Answered by ask answer) n = by_case (is_current (m.links k by.graph) by.connection) where
    by_case : (b : Bool) → RunsShow m.changes (if b then replied m k by ask answer else m).txns
    by_case true = replied_run k by ask answer n.0
    by_case false = s
  taken_run k Closed n = forgotten_run (λ g. true) k
  taken_run k Opened n = s
  taken_run k (Connected graph) n = s

  first_only : (o : Output) (os : List Output) → EachAnswer (Shows m.changes) (o ∷ os) → EachAnswer (Shows m.changes) (o ∷ [])
  first_only (Answered by ask answer) os n = (n.0, tt)
  first_only Closed os n = tt
  first_only Opened os n = tt
  first_only (Connected graph) os n = tt

  pub front_runs : (k : ℕ) (os : List Output) → EachAnswer (Shows m.changes) os → RunsShow m.changes (take_in_front m k os).txns
  front_runs k [] n = s
  front_runs k (o ∷ os) n = taken_run k o (first_only o os n)

  -- ---- turns

  pub at_run : (t : ℕ) (y : Txn) → RunShows m.changes y.stage → RunsShow m.changes (with_at m.txns t y)
  at_run t y n i = at_case (λ j (z : Txn). RunShows m.changes z.stage) m.txns t y n i (λ ne. s i)

  pub passed_at : (t : ℕ) → RunShows m.changes (passed (m.txns t).stage)
  passed_at t = passed_run m.changes (m.txns t).stage (s t)

  pub unsettled_runs : (t : ℕ) (stage : Stage) → RunsShow m.changes (unsettling m t stage).txns
  unsettled_runs t (Marking u) = at_run t _ tt
  unsettled_runs t other = s

  module _ (size : Size) (t : ℕ) where
    drawn_runs : (own : Job) → RunsShow m.changes (drawing m t own).txns
    drawn_runs (job.Change cells fd op effect) = at_run t _ tt
    drawn_runs other = s

    posted_runs : (stage : Stage) → RunsShow m.changes (posting size m t stage).txns
    posted_runs (Applying u) = at_run t _ tt
    posted_runs other = s

    settled_runs : (work : Work) (group : Replicas) (adopts : Bool) → RunsShow m.changes (settling size m t work group adopts).txns
    settled_runs Own group adopts = s
    settled_runs (Settles u) group adopts = at_run t _ tt

    born_runs : (own : Job) → RunsShow m.changes (bearing m t own).txns
    born_runs (job.Birth cells op) = at_run t _ tt
    born_runs other = s

    cleared_runs : (stage : Stage) → (m.txns t).stage ≡ stage → RunsShow m.changes (clearing m t stage).txns
    cleared_runs (Copying run) is = at_run t _ (subst (RunShows m.changes) is (s t))
    cleared_runs other is = s

    skipped_run : (stage : Stage) → RunShows m.changes (m.txns t).stage → RunShows m.changes (skipping (m.txns t) stage).stage
    skipped_run (Locking cells shared next) n = tt
    skipped_run other n = n

    locked_run : (work : Work) → RunShows m.changes (locking_for m (m.txns t) work).stage
    locked_run Own = tt
    locked_run (Settles u) = tt

    begun_run : (run : CopyRun) → run.fetched ≡ (λ c. None) → RunShows m.changes (Copying run)
    begun_run run none cell found is = absurd (let no : None ≡ Some found = sym (ap (λ (f : Cell → Option Fetched). f cell) none) ∙ is in cc)

    pub turned_runs : (turn : Turn) → MayTurn size m t turn → RunsShow m.changes (after_turn size m t turn).txns
    turned_runs (Turn.Begins graph own) h = at_run t _ tt
    turned_runs (Turn.LocksFor work) h = at_run t _ (locked_run work)
    turned_runs Turn.Skips h = at_run t _ (skipped_run (m.txns t).stage (s t))
    turned_runs Turn.Reaches h = at_run t _ tt
    turned_runs Turn.Marks h = drawn_runs (m.txns t).job
    turned_runs Turn.Posts h = posted_runs (m.txns t).stage
    turned_runs (Turn.SettlesAs group adopts) h = settled_runs (m.txns t).work group adopts
    turned_runs Turn.Bears h = born_runs (m.txns t).job
    turned_runs Turn.Confirms h = s
    turned_runs (Turn.Copies run) h = at_run t _ (begun_run run h.not_fetched)
    turned_runs Turn.Clears h = cleared_runs (m.txns t).stage refl
    turned_runs Turn.Polls h = at_run t _ tt
    turned_runs Turn.Unlocks h = at_run t _ tt
    turned_runs Turn.Rests h = at_run t _ tt
    turned_runs Turn.Ends h = at_run t _ tt
