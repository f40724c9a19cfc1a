-- What a step makes of a copy under way: it goes on, begins, is to be cleared from now on, or one answer is noted in it.
use Rattle.std.proofs.Common.{◌≡◌, ◌∙◌, ℕ, ◌+◌, Bool, true, false, refl, sym, ap, subst}
use Rattle.std.specs.Prelude.{if◌then◌else◌, List, [], ◌∷◌, ◌||◌, ◌==◌, not}
use Rattle.fop_types.specs.declared.cells.Cell.{Cell}
use Rattle.afr_machine.specs.Replicas.{Size, outside, with_at}
use Rattle.afr_machine.specs.Copies.{Fetched}
use Rattle.afr_machine.specs.Requests.{Sender, Ask, Answer, Output}
use Rattle.afr_machine.specs.Requests.Ask.{Lock, Fetch, Replace}
use Rattle.afr_machine.specs.Requests.Answer.{Rows, Content}
use Rattle.afr_machine.specs.Requests.Output.{Answered, Closed, Opened, Connected}
use Rattle.afr_machine.specs.Transactions.{Work, CopyRun, Stage, Txn, new_txn}
use Rattle.afr_machine.specs.Transactions.Work.{Own, Settles}
use Rattle.afr_machine.specs.Transactions.Stage.{Over, Locking, Locked, Marking, Applying, Posting, Settling, Bearing, Copying, Polling, Unlocking}
use Rattle.afr_machine.specs.States.{State, is_current}
use Rattle.afr_machine.specs.Sending.{asking}
use Rattle.afr_machine.specs.Answering.{is_wanted, passed, missing, with_first, with_replaced, granting, having, fetching, replacing, taking, awaits, at_rest, forgetting, replied, taken_in, without_first_output}
use Rattle.afr_machine.specs.Turns.{Turn, MayTurn, MayCopyNow, MayClearNow, entering, members, open_grants, after_turn, locking_for, skipping, resting, drawing, posting, settling, bearing, clearing}
use Rattle.afr_machine.specs.Steps.{Step, Allowed, after, take_in_front, unsettling, decided, decided_by}
use Rattle.afr_laws.proofs.Carry.{at_case}
use Rattle.afr_laws.proofs.EachTxn.{forgotten}
use Rattle.afr_laws.proofs.Heard.{Heard, replied_txns}
use Rattle.afr_laws.proofs.Heard.Heard.{Took, Passed, OpenDone, OpenMissed}
use Rattle.afr_laws.proofs.Goes.{decided_txns}
use Rattle.afr_soundness.specs.Copied.{is_copying}
use Rattle.afr_soundness.proofs.PhaseMoves.{IsHandedIn}
use Rattle.afr_soundness.proofs.Runs.{one_run, was_passed}

pub data RunMove (size : Size) (m : State) (step : Step) (t : ℕ) (run : CopyRun) : Type 0 where
  Stays : (m.txns t).stage ≡ Copying run → RunMove size m step t run
  Begins : step ≡ Step.Turns t (Turn.Copies run) → MayCopyNow size m t run → RunMove size m step t run
  Clears : step ≡ Step.Turns t Turn.Clears → (h : MayClearNow size m t) → run ≡ record h.run { clears = true } → RunMove size m step t run
  Fetches : (k : ℕ) → (by : Sender) → (cell : Cell) → (found : Fetched) → (before : CopyRun) → step ≡ Step.HandsIn k → IsHandedIn m k by (Fetch cell) (Content found) → by.txn ≡ t → (m.txns t).stage ≡ Copying before →
      run ≡ record before { fetched = with_first before.fetched cell found } → RunMove size m step t run
  Replaces : (k : ℕ) → (by : Sender) → (cell : Cell) → (found : Fetched) → (answer : Answer) → (before : CopyRun) → step ≡ Step.HandsIn k → IsHandedIn m k by (Replace cell found) answer → by.txn ≡ t → (m.txns t).stage ≡ Copying before →
      run ≡ record before { replaced = with_replaced before.replaced k cell } → RunMove size m step t run

module _ (size : Size) (m : State) where
  abbrev pub Moves : Step → ℕ → Stage → Type 0
  Moves step t stage = (run : CopyRun) → stage ≡ Copying run → RunMove size m step t run

  same : (step : Step) (t : ℕ) (stage : Stage) → stage ≡ (m.txns t).stage → Moves step t stage
  same step t stage is run copies = RunMove.Stays (sym is ∙ copies)

  passes : (step : Step) (t : ℕ) (stage : Stage) → stage ≡ passed (m.txns t).stage → Moves step t stage
  passes step t stage is run copies = RunMove.Stays (was_passed (m.txns t).stage run (sym is ∙ copies))

  none : (step : Step) (t : ℕ) (stage : Stage) → is_copying stage ≡ false → Moves step t stage
  none step t stage free run copies = absurd (let e : false ≡ true = sym free ∙ ap is_copying copies in cc)

  stays : (step : Step) (i : ℕ) → Moves step i (m.txns i).stage
  stays step i = same step i (m.txns i).stage refl

  only : (step : Step) (t : ℕ) (y : Txn) → Moves step t y.stage → (i : ℕ) → Moves step i (with_at m.txns t y i).stage
  only step t y h i = at_case (λ j (z : Txn). Moves step j z.stage) m.txns t y h i (λ ne. stays step i)

  table : (step : Step) (f g : ℕ → Txn) → g ≡ f → ((i : ℕ) → Moves step i (f i).stage) → (i : ℕ) → Moves step i (g i).stage
  table step f g is h i = subst (λ (f : ℕ → Txn). Moves step i (f i).stage) (sym is) (h i)

  -- ---- turns

  module _ (t : ℕ) where
    abbrev x : Txn
    x = m.txns t

    skips : (stage : Stage) → (m.txns t).stage ≡ stage → Moves (Step.Turns t Turn.Skips) t (skipping x stage).stage
    skips (Locking cells shared next) is = none (Step.Turns t Turn.Skips) t (Locking cells shared (next + 1)) refl
    skips other is = stays (Step.Turns t Turn.Skips) t

    locks : (work : Work) → Moves (Step.Turns t (Turn.LocksFor work)) t (locking_for m x work).stage
    locks Own = none (Step.Turns t (Turn.LocksFor Own)) t (locking_for m x Own).stage refl
    locks (Settles u) = none (Step.Turns t (Turn.LocksFor (Settles u))) t (locking_for m x (Settles u)).stage refl

    quiet : (turn : Turn) (y : Txn) → is_copying y.stage ≡ false → (i : ℕ) → Moves (Step.Turns t turn) i (with_at m.txns t y i).stage
    quiet turn y free = only (Step.Turns t turn) t y (none (Step.Turns t turn) t y.stage free)

    turned : (turn : Turn) → MayTurn size m t turn → (i : ℕ) → Moves (Step.Turns t turn) i ((after_turn size m t turn).txns i).stage
    turned (Turn.Begins graph job) h = quiet (Turn.Begins graph job) (new_txn graph job) refl
    turned (Turn.LocksFor work) h = only (Step.Turns t (Turn.LocksFor work)) t (locking_for m x work) (locks work)
    turned Turn.Skips h = only (Step.Turns t Turn.Skips) t (skipping x x.stage) (skips x.stage refl)
    turned Turn.Reaches h = quiet Turn.Reaches (record x { stage = Locked; phase = m.ended + 1; out = λ k. x.out k || not (open_grants m t k) }) refl
    turned Turn.Marks h =
        table (Step.Turns t Turn.Marks) (with_at m.txns t (record (entering x (Marking (m.drawn + 1)) (members m t)) { own = m.drawn + 1 })) ((drawing m t x.job).txns) (ap (λ j. (drawing m t j).txns) h.job_is)
        (quiet Turn.Marks (record (entering x (Marking (m.drawn + 1)) (members m t)) { own = m.drawn + 1 }) refl)
    turned Turn.Posts h =
        table (Step.Turns t Turn.Posts) (with_at m.txns t (entering x (Posting h.change) (m.changes h.change).done)) ((posting size m t x.stage).txns) (ap (λ s. (posting size m t s).txns) h.turn)
        (quiet Turn.Posts (entering x (Posting h.change) (m.changes h.change).done) refl)
    turned (Turn.SettlesAs group adopts) h =
        table (Step.Turns t (Turn.SettlesAs group adopts)) (with_at m.txns t (entering x (Settling h.change group adopts) (members m t))) ((settling size m t x.work group adopts).txns) (ap (λ w. (settling size m t w group adopts).txns) h.work_is)
        (quiet (Turn.SettlesAs group adopts) (entering x (Settling h.change group adopts) (members m t)) refl)
    turned Turn.Bears h =
        table (Step.Turns t Turn.Bears) (with_at m.txns t (entering x Bearing (members m t))) ((bearing m t x.job).txns) (ap (λ j. (bearing m t j).txns) h.job_is) (quiet Turn.Bears (entering x Bearing (members m t)) refl)
    turned Turn.Confirms h = stays (Step.Turns t Turn.Confirms)
    turned (Turn.Copies other) h = only (Step.Turns t (Turn.Copies other)) t (entering x (Copying other) (λ k. false))
        (λ run copies. subst (RunMove size m (Step.Turns t (Turn.Copies other)) t) (one_run other run copies) (RunMove.Begins refl h))
    turned Turn.Clears h =
        table (Step.Turns t Turn.Clears) (with_at m.txns t (entering x (Copying (record h.run { clears = true })) (members m t))) ((clearing m t x.stage).txns) (ap (λ s. (clearing m t s).txns) h.turn)
        (only (Step.Turns t Turn.Clears) t (entering x (Copying (record h.run { clears = true })) (members m t)) (λ run copies. RunMove.Clears refl h (sym (one_run (record h.run { clears = true }) run copies))))
    turned Turn.Polls h = quiet Turn.Polls (entering x Polling (outside size x.out)) refl
    turned Turn.Unlocks h = quiet Turn.Unlocks (entering x Unlocking (open_grants m t)) refl
    turned Turn.Rests h = quiet Turn.Rests (resting m t) refl
    turned Turn.Ends h = quiet Turn.Ends (record x { stage = Over }) refl

  -- ---- replies, with the front of the outputs

  module _ (k : ℕ) where
    module _ (by : Sender) (ask : Ask) (answer : Answer) (rest : List Output) (front : (m.bricks k).outputs ≡ Answered by ask answer ∷ rest) (current : is_current (m.links k by.graph) by.connection ≡ true) where
      abbrev Hears : Stage → Type 0
      Hears stage = Moves (Step.HandsIn k) by.txn stage

      abbrev z : Txn
      z = at_rest (m.txns by.txn) k

      handed : awaits (m.txns by.txn) k ≡ true → is_wanted ask answer ≡ true → (a : Ask) (b : Answer) → ask ≡ a → answer ≡ b → IsHandedIn m k by a b
      handed waits wanted a b ask_is answer_is = subst (λ c. IsHandedIn m k by c b) ask_is (subst (IsHandedIn m k by ask) answer_is (record { rest = rest; front = front; current = current; awaited = waits; wanted = wanted }))

      grants : (shared : Bool) (cells : List Cell) (a : Answer) → Hears (granting z k by.connection shared cells a).stage
      grants shared cells (Rows rows) = passes (Step.HandsIn k) by.txn _ refl
      grants shared cells other = stays (Step.HandsIn k) by.txn

      fetches : (cell : Cell) (found : Fetched) → IsHandedIn m k by (Fetch cell) (Content found) → (stage : Stage) → (m.txns by.txn).stage ≡ stage → Hears (fetching z stage cell found).stage
      fetches cell found h (Copying before) is run copies = RunMove.Fetches k by cell found before refl h refl is (sym (one_run (record before { fetched = with_first before.fetched cell found }) run copies))
      fetches cell found h other is run copies = stays (Step.HandsIn k) by.txn run copies

      replaces : (cell : Cell) (found : Fetched) → IsHandedIn m k by (Replace cell found) answer → (stage : Stage) → (m.txns by.txn).stage ≡ stage → Hears (replacing z stage k cell).stage
      replaces cell found h (Copying before) is run copies = RunMove.Replaces k by cell found answer before refl h refl is (sym (one_run (record before { replaced = with_replaced before.replaced k cell }) run copies))
      replaces cell found h other is run copies = stays (Step.HandsIn k) by.txn run copies

      has : awaits (m.txns by.txn) k ≡ true → is_wanted ask answer ≡ true → (cell : Cell) → ask ≡ Fetch cell → (b : Answer) → answer ≡ b → Hears (having z cell b).stage
      has waits wanted cell ask_is (Content found) answer_is = fetches cell found (handed waits wanted (Fetch cell) (Content found) ask_is answer_is) (m.txns by.txn).stage refl
      has waits wanted cell ask_is other answer_is = stays (Step.HandsIn k) by.txn

      takes : awaits (m.txns by.txn) k ≡ true → is_wanted ask answer ≡ true → (a : Ask) → ask ≡ a → Hears (taking z k by.connection a answer).stage
      takes waits wanted (Lock shared cells) is = grants shared cells answer
      takes waits wanted (Fetch cell) is = has waits wanted cell is answer refl
      takes waits wanted (Replace cell found) is = replaces cell found (handed waits wanted (Replace cell found) answer is refl) (m.txns by.txn).stage refl
      takes waits wanted other is = stays (Step.HandsIn k) by.txn

      hears : (y : Txn) → Heard (m.txns by.txn) y k by.connection ask answer → Hears y.stage
      hears y (Took plain waits flights is) = subst (λ (w : Txn). Hears w.stage) (sym is) (by_case (is_wanted ask answer) refl) where
        by_case : (b : Bool) → is_wanted ask answer ≡ b → Hears (if b then taking z k by.connection ask answer else missing z k).stage
        by_case true wanted = takes waits wanted ask refl
        by_case false other = passes (Step.HandsIn k) by.txn _ refl
      hears y (Passed plain late is) = same (Step.HandsIn k) by.txn y.stage (ap (λ (w : Txn). w.stage) is)
      hears y (OpenDone opens is) = same (Step.HandsIn k) by.txn y.stage (ap (λ (w : Txn). w.stage) is)
      hears y (OpenMissed opens is) = same (Step.HandsIn k) by.txn y.stage (ap (λ (w : Txn). w.stage) is)

      replies : (i : ℕ) → Moves (Step.HandsIn k) i ((replied (without_first_output m k) k by ask answer).txns i).stage
      replies i =
          let p = replied_txns (without_first_output m k) k by ask answer in
          subst (λ (f : ℕ → Txn). Moves (Step.HandsIn k) i (f i).stage) (sym p.is) (only (Step.HandsIn k) by.txn p.after (hears p.after p.heard) i)

    forgets : (step : Step) (ends : ℕ → Bool) (i : ℕ) → Moves step i (forgetting ends k (m.txns i)).stage
    forgets step ends i = forgotten m (λ j (y : Txn). Moves step j y.stage) (stays step) (λ j n. stays step j) ends k i

    taken : (o : Output) (rest : List Output) → (m.bricks k).outputs ≡ o ∷ rest → (i : ℕ) → Moves (Step.HandsIn k) i ((taken_in (without_first_output m k) k o).txns i).stage
    taken (Answered by ask answer) rest front i = by_case (is_current (m.links k by.graph) by.connection) refl where
      by_case : (b : Bool) → is_current (m.links k by.graph) by.connection ≡ b → Moves (Step.HandsIn k) i ((if b then replied (without_first_output m k) k by ask answer else without_first_output m k).txns i).stage
      by_case true current = replies by ask answer rest front current i
      by_case false late = stays (Step.HandsIn k) i
    taken Closed rest front i = forgets (Step.HandsIn k) (λ g. true) i
    taken Opened rest front i = stays (Step.HandsIn k) i
    taken (Connected graph) rest front i = stays (Step.HandsIn k) i

    hands : (os : List Output) → (m.bricks k).outputs ≡ os → (i : ℕ) → Moves (Step.HandsIn k) i ((take_in_front (without_first_output m k) k os).txns i).stage
    hands [] front i = stays (Step.HandsIn k) i
    hands (o ∷ os) front i = taken o os front i

  -- ---- every step

  moves_by : (step : Step) → Allowed size m step → (i : ℕ) → Moves step i ((after size m step).txns i).stage
  moves_by (Step.Turns t turn) h = turned t turn h
  moves_by (Step.Asks t k first ask) h = only (Step.Asks t k first ask) t (asking (m.txns t) k (m.links k (m.txns t).graph).last first ask) (stays (Step.Asks t k first ask) t)
  moves_by (Step.HandsIn k) h = hands k (m.bricks k).outputs refl
  moves_by (Step.Bails t k) h = only (Step.Bails t k) t (missing (record (m.txns t) { waits = with_at (m.txns t).waits k false }) k) (passes (Step.Bails t k) t (passed (m.txns t).stage) refl)
  moves_by (Step.Misses t k) h = only (Step.Misses t k) t (record (m.txns t) { left = with_at (m.txns t).left k false; out = with_at (m.txns t).out k true }) (stays (Step.Misses t k) t)
  moves_by (Step.Cuts k g) h = forgets k (Step.Cuts k g) (λ other. other == g)
  moves_by (Step.Unsettles t) h = table (Step.Unsettles t) (with_at m.txns t (entering (m.txns t) (Applying h.change) (m.txns t).confirmed)) ((unsettling m t (m.txns t).stage).txns) (ap (λ s. (unsettling m t s).txns) h.turn) (only (Step.Unsettles t) t (entering (m.txns t) (Applying h.change) (m.txns t).confirmed) (none (Step.Unsettles t) t (Applying h.change) refl))
  moves_by (Step.Decides t) h = table (Step.Decides t) m.txns ((decided m (decided_by (m.txns t).stage)).txns) (decided_txns m (decided_by (m.txns t).stage)) (stays (Step.Decides t))
  moves_by other h = λ i. stays other i

pub run_moves : (size : Size) (m : State) (step : Step) → Allowed size m step → (t : ℕ) (run : CopyRun) → ((after size m step).txns t).stage ≡ Copying run → RunMove size m step t run
run_moves size m step allowed t run copies = moves_by size m step allowed t run copies
