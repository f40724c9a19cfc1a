-- What a step makes of a transaction: it goes on with its task, or it takes one of its turns.
use Rattle.std.proofs.Common.{◌≡◌, ◌∙◌, ℕ, ◌+◌, Bool, true, false, refl, sym, ap, subst}
use Rattle.std.specs.Prelude.{if◌then◌else◌, List, [], ◌||◌, ◌==◌, not}
use Rattle.fop_types.specs.declared.cells.Cell.{Cell}
use Rattle.fop_types.specs.declared.jobs.Job.{Job}
use Rattle.afr_machine.specs.Replicas.{Size, Replicas, outside, with_at}
use Rattle.afr_machine.specs.Copies.{Fetched}
use Rattle.afr_machine.specs.Requests.{Ask, Answer}
use Rattle.afr_machine.specs.Requests.Ask.{Lock, Fetch, Replace}
use Rattle.afr_machine.specs.Requests.Answer.{Rows, Content}
use Rattle.afr_machine.specs.Transactions.{Work, CopyRun, Stage, Txn, new_txn}
use Rattle.afr_machine.specs.Transactions.Stage.{Over, Locking, Locked, Marking, Applying, Posting, Settling, Bearing, Copying, Polling, Unlocking}
use Rattle.afr_machine.specs.States.{State}
use Rattle.afr_machine.specs.Sending.{asking}
use Rattle.afr_machine.specs.Answering.{is_wanted, passed, missing, granting, having, fetching, replacing, taking, hearing, at_rest}
use Rattle.afr_machine.specs.Turns.{Turn, MayTurn, MayLockFor, MayReach, MayMarkNow, MayPostNow, MaySettleNow, MayBearNow, MayCopyNow, MayClearNow, MayUnlockNow, MayRest, MayPollNow, entering, members, open_grants, after_turn, locking_for, skipping, resting, drawing, posting, settling, bearing, clearing}
use Rattle.afr_machine.specs.Steps.{Step, Allowed, MayUnsettle, after, unsettling, decided_by}
use Rattle.afr_laws.proofs.Carry.{at_case}
use Rattle.afr_laws.proofs.EachTxn.{forgotten, front_one}
use Rattle.afr_laws.proofs.Heard.{Heard}
use Rattle.afr_laws.proofs.Heard.Heard.{Took, Passed, OpenDone, OpenMissed}
use Rattle.afr_laws.proofs.Goes.{decided_txns}
use Rattle.afr_laws.proofs.OwnChanges.Replies.{SameTask, heard_task}

-- a turn that leaves a transaction's task as it is
abbrev pub is_quiet : Turn → Bool
is_quiet Turn.Skips = true
is_quiet Turn.Confirms = true
is_quiet other = false

-- the step is a turn of the transaction by which it goes over to another stage
abbrev pub IsTurnOf : ℕ → Step → Type 0
IsTurnOf t (Step.Turns s turn) = (s ≡ t) × (is_quiet turn ≡ false)
IsTurnOf t (Step.Unsettles s) = s ≡ t
IsTurnOf t other = ⊥

-- what is copied, where and from whom stays, and whether the clear is under way
pub record SameRun (old new : CopyRun) : Type 0 where
  pub cells : new.cells ≡ old.cells
  pub sources : new.sources ≡ old.sources
  pub sinks : new.sinks ≡ old.sinks
  pub group : new.group ≡ old.group
  pub clears : new.clears ≡ old.clears

-- the stage stays, passes the turn on, or goes on with its copy
pub data StageKeeps (old new : Stage) : Type 0 where
  StaysIn : new ≡ old → StageKeeps old new
  PassesOn : new ≡ passed old → StageKeeps old new
  CopiesOn : (run later : CopyRun) → old ≡ Copying run → new ≡ Copying later → SameRun run later → StageKeeps old new

-- its job, work, lock phase and own change stay; who is out stays out
pub record GoesOn (x y : Txn) : Type 0 where
  pub task : SameTask x y
  pub stage : StageKeeps x.stage y.stage
  pub out : (k : ℕ) → x.out k ≡ true → y.out k ≡ true

pub data TxnMove (size : Size) (m : State) (step : Step) (t : ℕ) (y : Txn) : Type 0 where
  Goes : (IsTurnOf t step → ⊥) → GoesOn (m.txns t) y → TxnMove size m step t y
  Begins : (graph : ℕ) → (job : Job) → step ≡ Step.Turns t (Turn.Begins graph job) → t ≡ m.begun + 1 → y ≡ new_txn graph job → TxnMove size m step t y
  Locks : (work : Work) → step ≡ Step.Turns t (Turn.LocksFor work) → MayLockFor m t work → y ≡ locking_for m (m.txns t) work → TxnMove size m step t y
  Reaches : step ≡ Step.Turns t Turn.Reaches → MayReach size m t → y ≡ record (m.txns t) { stage = Locked; phase = m.ended + 1; out = λ k. (m.txns t).out k || not (open_grants m t k) } → TxnMove size m step t y
  Marks : step ≡ Step.Turns t Turn.Marks → MayMarkNow size m t → y ≡ record (entering (m.txns t) (Marking (m.drawn + 1)) (members m t)) { own = m.drawn + 1 } → TxnMove size m step t y
  Unsettles : step ≡ Step.Unsettles t → (h : MayUnsettle size m t) → y ≡ entering (m.txns t) (Applying h.change) (m.txns t).confirmed → TxnMove size m step t y
  Posts : step ≡ Step.Turns t Turn.Posts → (h : MayPostNow size m t) → y ≡ entering (m.txns t) (Posting h.change) (m.changes h.change).done → TxnMove size m step t y
  SettlesAs : (group : Replicas) → (adopts : Bool) → step ≡ Step.Turns t (Turn.SettlesAs group adopts) → (h : MaySettleNow size m t group adopts) → y ≡ entering (m.txns t) (Settling h.change group adopts) (members m t) → TxnMove size m step t y
  Bears : step ≡ Step.Turns t Turn.Bears → MayBearNow size m t → y ≡ entering (m.txns t) Bearing (members m t) → TxnMove size m step t y
  Copies : (run : CopyRun) → step ≡ Step.Turns t (Turn.Copies run) → MayCopyNow size m t run → y ≡ entering (m.txns t) (Copying run) (λ k. false) → TxnMove size m step t y
  Clears : step ≡ Step.Turns t Turn.Clears → (h : MayClearNow size m t) → y ≡ entering (m.txns t) (Copying (record h.run { clears = true })) (members m t) → TxnMove size m step t y
  Polls : step ≡ Step.Turns t Turn.Polls → MayPollNow m t → y ≡ entering (m.txns t) Polling (outside size (m.txns t).out) → TxnMove size m step t y
  Unlocks : step ≡ Step.Turns t Turn.Unlocks → MayUnlockNow size m t → y ≡ entering (m.txns t) Unlocking (open_grants m t) → TxnMove size m step t y
  Rests : step ≡ Step.Turns t Turn.Rests → MayRest size m t → y ≡ resting m t → TxnMove size m step t y
  Ends : step ≡ Step.Turns t Turn.Ends → (m.txns t).stage ≡ Stage.Choosing → y ≡ record (m.txns t) { stage = Over } → TxnMove size m step t y

-- ---- a task that goes on

same_task : (x : Txn) → SameTask x x
same_task x = record { own = record { job = refl; own = refl; settled = refl }; work = refl; phase = refl }

goes_on : (x : Txn) → GoesOn x x
goes_on x = record { task = same_task x; stage = StageKeeps.StaysIn refl; out = λ k h. h }

missed_out : (out : Replicas) (k j : ℕ) → out j ≡ true → with_at out k true j ≡ true
missed_out out k j h = at_case (λ i b. out i ≡ true → b ≡ true) out k true (λ o. refl) j (λ ne o. o) h

heard_out : (x y : Txn) (k connection : ℕ) (ask : Ask) (answer : Answer) → Heard x y k connection ask answer → (j : ℕ) → x.out j ≡ true → y.out j ≡ true
heard_out x y k connection ask answer (Took plain waits same is) j h = same.out j h
heard_out x y k connection ask answer (Passed plain passes is) j h = ap (λ (z : Txn). z.out j) is ∙ h
heard_out x y k connection ask answer (OpenDone opens is) j h = ap (λ (z : Txn). z.out j) is ∙ h
heard_out x y k connection ask answer (OpenMissed opens is) j h = ap (λ (z : Txn). z.out j) is ∙ missed_out x.out k j h

skips_on : (x : Txn) (stage : Stage) → x.stage ≡ stage → GoesOn x (skipping x stage)
skips_on x (Locking cells shared next) is = record { task = record { own = record { job = refl; own = refl; settled = refl }; work = refl; phase = refl }; stage = StageKeeps.PassesOn (sym (ap passed is)); out = λ k h. missed_out x.out next k h }
skips_on x other is = goes_on x

-- ---- a reply

same_run : (run : CopyRun) → SameRun run run
same_run run = record { cells = refl; sources = refl; sinks = refl; group = refl; clears = refl }

module _ (x : Txn) (k connection : ℕ) where
  granting_keeps : (shared : Bool) (cells : List Cell) (answer : Answer) → StageKeeps x.stage (granting x k connection shared cells answer).stage
  granting_keeps shared cells (Rows rows) = StageKeeps.PassesOn refl
  granting_keeps shared cells other = StageKeeps.StaysIn refl

  fetching_keeps : (stage : Stage) (cell : Cell) (found : Fetched) → x.stage ≡ stage → StageKeeps x.stage (fetching x stage cell found).stage
  fetching_keeps (Copying run) cell found is = StageKeeps.CopiesOn run _ is refl (record { cells = refl; sources = refl; sinks = refl; group = refl; clears = refl })
  fetching_keeps other cell found is = StageKeeps.StaysIn refl

  having_keeps : (cell : Cell) (answer : Answer) → StageKeeps x.stage (having x cell answer).stage
  having_keeps cell (Content found) = fetching_keeps x.stage cell found refl
  having_keeps cell other = StageKeeps.StaysIn refl

  replacing_keeps : (stage : Stage) (cell : Cell) → x.stage ≡ stage → StageKeeps x.stage (replacing x stage k cell).stage
  replacing_keeps (Copying run) cell is = StageKeeps.CopiesOn run _ is refl (record { cells = refl; sources = refl; sinks = refl; group = refl; clears = refl })
  replacing_keeps other cell is = StageKeeps.StaysIn refl

  taking_keeps : (ask : Ask) (answer : Answer) → StageKeeps x.stage (taking x k connection ask answer).stage
  taking_keeps (Lock shared cells) answer = granting_keeps shared cells answer
  taking_keeps (Fetch cell) answer = having_keeps cell answer
  taking_keeps (Replace cell found) answer = replacing_keeps x.stage cell refl
  taking_keeps other answer = StageKeeps.StaysIn refl

  hearing_keeps : (ask : Ask) (answer : Answer) → StageKeeps x.stage (hearing x k connection ask answer).stage
  hearing_keeps ask answer = by_case (is_wanted ask answer) where
    by_case : (b : Bool) → StageKeeps x.stage (if b then taking x k connection ask answer else missing x k).stage
    by_case true = taking_keeps ask answer
    by_case false = StageKeeps.PassesOn refl

heard_keeps : (x y : Txn) (k connection : ℕ) (ask : Ask) (answer : Answer) → Heard x y k connection ask answer → StageKeeps x.stage y.stage
heard_keeps x y k connection ask answer (Took plain waits same is) = subst (λ (z : Txn). StageKeeps x.stage z.stage) (sym is) (hearing_keeps (at_rest x k) k connection ask answer)
heard_keeps x y k connection ask answer (Passed plain passes is) = StageKeeps.StaysIn (ap (λ (z : Txn). z.stage) is)
heard_keeps x y k connection ask answer (OpenDone opens is) = StageKeeps.StaysIn (ap (λ (z : Txn). z.stage) is)
heard_keeps x y k connection ask answer (OpenMissed opens is) = StageKeeps.StaysIn (ap (λ (z : Txn). z.stage) is)

-- ---- one step

module _ (size : Size) (m : State) where
  abbrev pub Moves : Step → ℕ → Txn → Type 0
  Moves step i y = TxnMove size m step i y

  stays : (step : Step) (i : ℕ) → (IsTurnOf i step → ⊥) → Moves step i (m.txns i)
  stays step i none = TxnMove.Goes none (goes_on (m.txns i))

  module _ (t : ℕ) where
    abbrev x : Txn
    x = m.txns t

    -- a turn, with what it makes of its transaction
    turns : (turn : Turn) (y : Txn) → Moves (Step.Turns t turn) t y → (i : ℕ) → Moves (Step.Turns t turn) i (with_at m.txns t y i)
    turns turn y h i = at_case (λ j (z : Txn). Moves (Step.Turns t turn) j z) m.txns t y h i (λ ne. stays (Step.Turns t turn) i (λ q. ne (sym q.0)))

    table : (turn : Turn) (f : ℕ → Txn) → (after_turn size m t turn).txns ≡ f → ((i : ℕ) → Moves (Step.Turns t turn) i (f i)) → (i : ℕ) → Moves (Step.Turns t turn) i ((after_turn size m t turn).txns i)
    table turn f is h i = subst (λ (g : ℕ → Txn). Moves (Step.Turns t turn) i (g i)) (sym is) (h i)

    turned : (turn : Turn) → MayTurn size m t turn → (i : ℕ) → Moves (Step.Turns t turn) i ((after_turn size m t turn).txns i)
    turned (Turn.Begins graph job) h = turns (Turn.Begins graph job) (new_txn graph job) (TxnMove.Begins graph job refl h.0 refl)
    turned (Turn.LocksFor work) h = turns (Turn.LocksFor work) (locking_for m x work) (TxnMove.Locks work refl h refl)
    turned Turn.Skips h = turns Turn.Skips (skipping x x.stage) (TxnMove.Goes (λ q. absurd (let e : true ≡ false = q.1 in cc)) (skips_on x x.stage refl))
    turned Turn.Reaches h = turns Turn.Reaches (record x { stage = Locked; phase = m.ended + 1; out = λ k. x.out k || not (open_grants m t k) }) (TxnMove.Reaches refl h refl)
    turned Turn.Marks h =
        table Turn.Marks (with_at m.txns t (record (entering x (Marking (m.drawn + 1)) (members m t)) { own = m.drawn + 1 })) (ap (λ j. (drawing m t j).txns) h.job_is)
        (turns Turn.Marks (record (entering x (Marking (m.drawn + 1)) (members m t)) { own = m.drawn + 1 }) (TxnMove.Marks refl h refl))
    turned Turn.Posts h =
        table Turn.Posts (with_at m.txns t (entering x (Posting h.change) (m.changes h.change).done)) (ap (λ s. (posting size m t s).txns) h.turn)
        (turns Turn.Posts (entering x (Posting h.change) (m.changes h.change).done) (TxnMove.Posts refl h refl))
    turned (Turn.SettlesAs group adopts) h =
        table (Turn.SettlesAs group adopts) (with_at m.txns t (entering x (Settling h.change group adopts) (members m t))) (ap (λ w. (settling size m t w group adopts).txns) h.work_is)
        (turns (Turn.SettlesAs group adopts) (entering x (Settling h.change group adopts) (members m t)) (TxnMove.SettlesAs group adopts refl h refl))
    turned Turn.Bears h =
        table Turn.Bears (with_at m.txns t (entering x Bearing (members m t))) (ap (λ j. (bearing m t j).txns) h.job_is)
        (turns Turn.Bears (entering x Bearing (members m t)) (TxnMove.Bears refl h refl))
    turned Turn.Confirms h = λ i. stays (Step.Turns t Turn.Confirms) i (λ q. absurd (let e : true ≡ false = q.1 in cc))
    turned (Turn.Copies run) h = turns (Turn.Copies run) (entering x (Copying run) (λ k. false)) (TxnMove.Copies run refl h refl)
    turned Turn.Clears h =
        table Turn.Clears (with_at m.txns t (entering x (Copying (record h.run { clears = true })) (members m t))) (ap (λ s. (clearing m t s).txns) h.turn)
        (turns Turn.Clears (entering x (Copying (record h.run { clears = true })) (members m t)) (TxnMove.Clears refl h refl))
    turned Turn.Polls h = turns Turn.Polls (entering x Polling (outside size x.out)) (TxnMove.Polls refl h refl)
    turned Turn.Unlocks h = turns Turn.Unlocks (entering x Unlocking (open_grants m t)) (TxnMove.Unlocks refl h refl)
    turned Turn.Rests h = turns Turn.Rests (resting m t) (TxnMove.Rests refl h refl)
    turned Turn.Ends h = turns Turn.Ends (record x { stage = Over }) (TxnMove.Ends refl h refl)

  -- a step that is no turn changes at most one entry
  one : (step : Step) → ((i : ℕ) → IsTurnOf i step → ⊥) → (t : ℕ) (y : Txn) → GoesOn (m.txns t) y → (i : ℕ) → Moves step i (with_at m.txns t y i)
  one step none t y h i = at_case (λ j (z : Txn). Moves step j z) m.txns t y (TxnMove.Goes (none t) h) i (λ ne. stays step i (none i))

  forgets : (step : Step) → ((i : ℕ) → IsTurnOf i step → ⊥) → (i k : ℕ) → Moves step i (record (m.txns i) { flying = with_at (m.txns i).flying k [] })
  forgets step none i k = TxnMove.Goes (none i) (record { task = record { own = record { job = refl; own = refl; settled = refl }; work = refl; phase = refl }; stage = StageKeeps.StaysIn refl; out = λ j h. h })

  hears : (step : Step) → ((i : ℕ) → IsTurnOf i step → ⊥) → (t : ℕ) (y : Txn) (k connection : ℕ) (ask : Ask) (answer : Answer) → Heard (m.txns t) y k connection ask answer → Moves step t y
  hears step none t y k connection ask answer h =
      let task = heard_task (m.txns t) y k connection ask answer h in
      TxnMove.Goes (none t) (record { task = task.0; stage = heard_keeps (m.txns t) y k connection ask answer h; out = heard_out (m.txns t) y k connection ask answer h })

  all_stay : (step : Step) → ((i : ℕ) → IsTurnOf i step → ⊥) → (i : ℕ) → Moves step i (m.txns i)
  all_stay step none i = stays step i (none i)

pub txn_moves : (size : Size) (m : State) (step : Step) → Allowed size m step → (i : ℕ) → TxnMove size m step i ((after size m step).txns i)
txn_moves size m (Step.Turns t turn) h = turned size m t turn h
txn_moves size m (Step.Asks t k first asked) h = one size m (Step.Asks t k first asked) (λ i q. q) t (asking (m.txns t) k (m.links k (m.txns t).graph).last first asked) (record { task = record { own = record { job = refl; own = refl; settled = refl }; work = refl; phase = refl }; stage = StageKeeps.StaysIn refl; out = λ j h. h })
txn_moves size m (Step.HandsIn k) h =
    front_one m (Moves size m (Step.HandsIn k)) (all_stay size m (Step.HandsIn k) (λ i q. q)) (forgets size m (Step.HandsIn k) (λ i q. q)) (hears size m (Step.HandsIn k) (λ i q. q)) k (m.bricks k).outputs
txn_moves size m (Step.Bails t k) h =
    one size m (Step.Bails t k) (λ i q. q) t (missing (record (m.txns t) { waits = with_at (m.txns t).waits k false }) k)
    (record { task = record { own = record { job = refl; own = refl; settled = refl }; work = refl; phase = refl }; stage = StageKeeps.PassesOn refl; out = λ j h. missed_out (m.txns t).out k j h })
txn_moves size m (Step.Misses t k) h =
    one size m (Step.Misses t k) (λ i q. q) t (record (m.txns t) { left = with_at (m.txns t).left k false; out = with_at (m.txns t).out k true })
    (record { task = record { own = record { job = refl; own = refl; settled = refl }; work = refl; phase = refl }; stage = StageKeeps.StaysIn refl; out = λ j h. missed_out (m.txns t).out k j h })
txn_moves size m (Step.Cuts k g) h = forgotten m (Moves size m (Step.Cuts k g)) (all_stay size m (Step.Cuts k g) (λ i q. q)) (forgets size m (Step.Cuts k g) (λ i q. q)) (λ other. other == g) k
txn_moves size m (Step.Unsettles t) h = λ i. subst (λ (f : ℕ → Txn). TxnMove size m (Step.Unsettles t) i (f i)) (sym (ap (λ s. (unsettling m t s).txns) h.turn))
    (at_case (λ j (z : Txn). TxnMove size m (Step.Unsettles t) j z) m.txns t (entering (m.txns t) (Applying h.change) (m.txns t).confirmed) (TxnMove.Unsettles refl h refl) i (λ ne. stays size m (Step.Unsettles t) i (λ same. ne (sym same))))
txn_moves size m (Step.Decides t) h = λ i. subst (λ (f : ℕ → Txn). TxnMove size m (Step.Decides t) i (f i)) (sym (decided_txns m (decided_by (m.txns t).stage))) (all_stay size m (Step.Decides t) (λ i q. q) i)
txn_moves size m (Step.Controls k steering) h = all_stay size m (Step.Controls k steering) (λ i q. q)
txn_moves size m (Step.Serves k) h = all_stay size m (Step.Serves k) (λ i q. q)
txn_moves size m (Step.Refuses k answer) h = all_stay size m (Step.Refuses k answer) (λ i q. q)
txn_moves size m (Step.GivesUp k) h = all_stay size m (Step.GivesUp k) (λ i q. q)
txn_moves size m (Step.Steers k) h = all_stay size m (Step.Steers k) (λ i q. q)
txn_moves size m (Step.Connects k g) h = all_stay size m (Step.Connects k g) (λ i q. q)
txn_moves size m (Step.Draws number) h = all_stay size m (Step.Draws number) (λ i q. q)
