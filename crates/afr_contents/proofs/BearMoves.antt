-- What a step makes of a transaction that gives birth: it begins to, or goes on, and one more brick may have confirmed.
use Rattle.std.proofs.Common.{◌≡◌, ◌∙◌, ℕ, ◌+◌, Bool, true, false, refl, sym, ap, subst, ◌⊎◌, inl, inr}
use Rattle.std.specs.Prelude.{if◌then◌else◌, List, [], ◌∷◌, ◌||◌, ◌==◌, not}
use Rattle.fop_types.specs.declared.cells.Cell.{Cell}
use Rattle.afr_machine.specs.Replicas.{Size, Replicas, outside, with_at}
use Rattle.afr_machine.specs.Copies.{Fetched}
use Rattle.afr_machine.specs.Requests.{Sender, Ask, Answer, Output}
use Rattle.afr_machine.specs.Requests.Ask.{Lock, Fetch, Replace, Unlock, Release, OpenFirst}
use Rattle.afr_machine.specs.Requests.Answer.{Rows, Content}
use Rattle.afr_machine.specs.Requests.Output.{Answered, Closed, Opened, Connected}
use Rattle.afr_machine.specs.Transactions.{Work, Stage, Txn, new_txn}
use Rattle.afr_machine.specs.Transactions.Work.{Own, Settles}
use Rattle.afr_machine.specs.Transactions.Stage.{Over, Locking, Locked, Marking, Applying, Posting, Settling, Bearing, Copying, Polling, Unlocking}
use Rattle.afr_machine.specs.States.{State, is_current}
use Rattle.afr_machine.specs.Sending.{asking}
use Rattle.afr_machine.specs.Answering.{is_wanted, passed, missing, confirming, granting, having, fetching, replacing, taking, awaits, at_rest, forgetting, replied, taken_in, without_first_output}
use Rattle.afr_machine.specs.Turns.{Turn, MayTurn, MayBearNow, entering, members, open_grants, after_turn, locking_for, skipping, resting, drawing, posting, settling, bearing, clearing}
use Rattle.afr_machine.specs.Steps.{Step, Allowed, after, take_in_front, unsettling, decided, decided_by}
use Rattle.afr_laws.proofs.Carry.{at_case}
use Rattle.afr_laws.proofs.EachTxn.{forgotten}
use Rattle.afr_laws.proofs.Heard.{is_open_first, Heard, replied_txns}
use Rattle.afr_laws.proofs.Heard.Heard.{Took, Passed, OpenDone, OpenMissed}
use Rattle.afr_laws.proofs.Goes.{decided_txns}
use Rattle.afr_soundness.proofs.SendMoves.{IsConfirmedNow}

pub data BearMove (size : Size) (m : State) (step : Step) (t : ℕ) (y : Txn) : Type 0 where
  Keeps : (m.txns t).stage ≡ Bearing → y.job ≡ (m.txns t).job → ((k : ℕ) → y.confirmed k ≡ true → ((m.txns t).confirmed k ≡ true) ⊎ IsConfirmedNow m step t k) → BearMove size m step t y
  Bears : step ≡ Step.Turns t Turn.Bears → MayBearNow size m t → y.job ≡ (m.txns t).job → ((k : ℕ) → y.confirmed k ≡ true → ⊥) → BearMove size m step t y

abbrev is_bearing : Stage → Bool
is_bearing Bearing = true
is_bearing other = false

passed_bearing : (old : Stage) → passed old ≡ Bearing → old ≡ Bearing
passed_bearing (Locking cells shared next) is = absurd (let e : false ≡ true = ap is_bearing is in cc)
passed_bearing other is = is

module _ (size : Size) (m : State) where
  abbrev Moves : Step → ℕ → Txn → Type 0
  Moves step t y = y.stage ≡ Bearing → BearMove size m step t y

  -- in the same stage, with whoever confirmed
  same : (step : Step) (t : ℕ) (y : Txn) → y.stage ≡ (m.txns t).stage → y.job ≡ (m.txns t).job → y.confirmed ≡ (m.txns t).confirmed → Moves step t y
  same step t y stage job confirmed is = BearMove.Keeps (sym stage ∙ is) job (λ k h. inl (sym (ap (λ (f : Replicas). f k) confirmed) ∙ h))

  passes : (step : Step) (t : ℕ) (y : Txn) → y.stage ≡ passed (m.txns t).stage → y.job ≡ (m.txns t).job → y.confirmed ≡ (m.txns t).confirmed → Moves step t y
  passes step t y stage job confirmed is = BearMove.Keeps (passed_bearing (m.txns t).stage (sym stage ∙ is)) job (λ k h. inl (sym (ap (λ (f : Replicas). f k) confirmed) ∙ h))

  none : (step : Step) (t : ℕ) (y : Txn) → is_bearing y.stage ≡ false → Moves step t y
  none step t y free is = absurd (let e : false ≡ true = sym free ∙ ap is_bearing is in cc)

  stays : (step : Step) (i : ℕ) → Moves step i (m.txns i)
  stays step i = same step i (m.txns i) refl refl refl

  only : (step : Step) (t : ℕ) (y : Txn) → Moves step t y → (i : ℕ) → Moves step i (with_at m.txns t y i)
  only step t y h i = at_case (λ j (z : Txn). Moves step j z) m.txns t y h i (λ ne. stays step i)

  table : (step : Step) (f g : ℕ → Txn) → g ≡ f → ((i : ℕ) → Moves step i (f i)) → (i : ℕ) → Moves step i (g i)
  table step f g is h i = subst (λ (f : ℕ → Txn). Moves step i (f i)) (sym is) (h i)

  -- ---- turns

  module _ (t : ℕ) where
    abbrev x : Txn
    x = m.txns t

    skips : (stage : Stage) → (m.txns t).stage ≡ stage → Moves (Step.Turns t Turn.Skips) t (skipping x stage)
    skips (Locking cells shared next) is = none (Step.Turns t Turn.Skips) t (skipping x (Locking cells shared next)) refl
    skips other is = stays (Step.Turns t Turn.Skips) t

    locks : (work : Work) → Moves (Step.Turns t (Turn.LocksFor work)) t (locking_for m x work)
    locks Own = none (Step.Turns t (Turn.LocksFor Own)) t (locking_for m x Own) refl
    locks (Settles u) = none (Step.Turns t (Turn.LocksFor (Settles u))) t (locking_for m x (Settles u)) refl

    quiet : (turn : Turn) (y : Txn) → is_bearing y.stage ≡ false → (i : ℕ) → Moves (Step.Turns t turn) i (with_at m.txns t y i)
    quiet turn y free = only (Step.Turns t turn) t y (none (Step.Turns t turn) t y free)

    turned : (turn : Turn) → MayTurn size m t turn → (i : ℕ) → Moves (Step.Turns t turn) i ((after_turn size m t turn).txns i)
    turned (Turn.Begins graph job) h = quiet (Turn.Begins graph job) (new_txn graph job) refl
    turned (Turn.LocksFor work) h = only (Step.Turns t (Turn.LocksFor work)) t (locking_for m x work) (locks work)
    turned Turn.Skips h = only (Step.Turns t Turn.Skips) t (skipping x x.stage) (skips x.stage refl)
    turned Turn.Reaches h = quiet Turn.Reaches (record x { stage = Locked; phase = m.ended + 1; out = λ k. x.out k || not (open_grants m t k) }) refl
    turned Turn.Marks h =
        table (Step.Turns t Turn.Marks) (with_at m.txns t (record (entering x (Marking (m.drawn + 1)) (members m t)) { own = m.drawn + 1 })) ((drawing m t x.job).txns) (ap (λ j. (drawing m t j).txns) h.job_is)
        (quiet Turn.Marks (record (entering x (Marking (m.drawn + 1)) (members m t)) { own = m.drawn + 1 }) refl)
    turned Turn.Posts h =
        table (Step.Turns t Turn.Posts) (with_at m.txns t (entering x (Posting h.change) (m.changes h.change).done)) ((posting size m t x.stage).txns) (ap (λ s. (posting size m t s).txns) h.turn)
        (quiet Turn.Posts (entering x (Posting h.change) (m.changes h.change).done) refl)
    turned (Turn.SettlesAs group adopts) h =
        table (Step.Turns t (Turn.SettlesAs group adopts)) (with_at m.txns t (entering x (Settling h.change group adopts) (members m t))) ((settling size m t x.work group adopts).txns) (ap (λ w. (settling size m t w group adopts).txns) h.work_is)
        (quiet (Turn.SettlesAs group adopts) (entering x (Settling h.change group adopts) (members m t)) refl)
    turned Turn.Bears h =
        table (Step.Turns t Turn.Bears) (with_at m.txns t (entering x Bearing (members m t))) ((bearing m t x.job).txns) (ap (λ j. (bearing m t j).txns) h.job_is)
        (only (Step.Turns t Turn.Bears) t (entering x Bearing (members m t)) (λ is. BearMove.Bears refl h refl (λ k none_yet. absurd (let e : false ≡ true = none_yet in cc))))
    turned Turn.Confirms h = stays (Step.Turns t Turn.Confirms)
    turned (Turn.Copies run) h = quiet (Turn.Copies run) (entering x (Copying run) (λ k. false)) refl
    turned Turn.Clears h =
        table (Step.Turns t Turn.Clears) (with_at m.txns t (entering x (Copying (record h.run { clears = true })) (members m t))) ((clearing m t x.stage).txns) (ap (λ s. (clearing m t s).txns) h.turn)
        (quiet Turn.Clears (entering x (Copying (record h.run { clears = true })) (members m t)) refl)
    turned Turn.Polls h = quiet Turn.Polls (entering x Polling (outside size x.out)) refl
    turned Turn.Unlocks h = quiet Turn.Unlocks (entering x Unlocking (open_grants m t)) refl
    turned Turn.Rests h = quiet Turn.Rests (resting m t) refl
    turned Turn.Ends h = quiet Turn.Ends (record x { stage = Over }) refl

  -- ---- replies, with the front of the outputs

  module _ (k : ℕ) where
    module _ (by : Sender) (ask : Ask) (answer : Answer) (rest : List Output) (front : (m.bricks k).outputs ≡ Answered by ask answer ∷ rest) (current : is_current (m.links k by.graph) by.connection ≡ true) where
      abbrev Hears : Txn → Type 0
      Hears y = Moves (Step.HandsIn k) by.txn y

      abbrev z : Txn
      z = at_rest (m.txns by.txn) k

      grants : (shared : Bool) (cells : List Cell) (a : Answer) → Hears (granting z k by.connection shared cells a)
      grants shared cells (Rows rows) = passes (Step.HandsIn k) by.txn _ refl refl refl
      grants shared cells other = same (Step.HandsIn k) by.txn _ refl refl refl

      fetches : (cell : Cell) (found : Fetched) → (stage : Stage) → (m.txns by.txn).stage ≡ stage → Hears (fetching z stage cell found)
      fetches cell found (Copying run) is = none (Step.HandsIn k) by.txn _ refl
      fetches cell found other is = same (Step.HandsIn k) by.txn _ refl refl refl

      has : (cell : Cell) (a : Answer) → Hears (having z cell a)
      has cell (Content found) = fetches cell found (m.txns by.txn).stage refl
      has cell other = same (Step.HandsIn k) by.txn _ refl refl refl

      replaces : (cell : Cell) → (stage : Stage) → (m.txns by.txn).stage ≡ stage → Hears (replacing z stage k cell)
      replaces cell (Copying run) is = none (Step.HandsIn k) by.txn _ refl
      replaces cell other is = same (Step.HandsIn k) by.txn _ refl refl refl

      confirms : is_open_first ask ≡ false → awaits (m.txns by.txn) k ≡ true → is_wanted ask answer ≡ true → Hears (confirming z k)
      confirms plain waits wanted is = BearMove.Keeps is refl now where
        now : (j : ℕ) → with_at (m.txns by.txn).confirmed k true j ≡ true → ((m.txns by.txn).confirmed j ≡ true) ⊎ IsConfirmedNow m (Step.HandsIn k) by.txn j
        now j h = at_case (λ i b. b ≡ true → ((m.txns by.txn).confirmed i ≡ true) ⊎ IsConfirmedNow m (Step.HandsIn k) by.txn i) (m.txns by.txn).confirmed k true
            (λ e. inr (record { by = by; ask = ask; answer = answer; is = refl; plain = plain; handed = record { rest = rest; front = front; current = current; awaited = waits; wanted = wanted }; txn = refl })) j (λ ne e. inl e) h

      takes : is_open_first ask ≡ false → awaits (m.txns by.txn) k ≡ true → is_wanted ask answer ≡ true → (a : Ask) → Hears (taking z k by.connection a answer)
      takes plain waits wanted (Lock shared cells) = grants shared cells answer
      takes plain waits wanted Unlock = same (Step.HandsIn k) by.txn _ refl refl refl
      takes plain waits wanted (Fetch cell) = has cell answer
      takes plain waits wanted (Replace cell found) = replaces cell (m.txns by.txn).stage refl
      takes plain waits wanted Release = same (Step.HandsIn k) by.txn _ refl refl refl
      takes plain waits wanted OpenFirst = same (Step.HandsIn k) by.txn _ refl refl refl
      takes plain waits wanted other = confirms plain waits wanted

      hears : (y : Txn) → Heard (m.txns by.txn) y k by.connection ask answer → Hears y
      hears y (Took plain waits flights is) = subst (λ (w : Txn). Hears w) (sym is) (by_case (is_wanted ask answer) refl) where
        by_case : (b : Bool) → is_wanted ask answer ≡ b → Hears (if b then taking z k by.connection ask answer else missing z k)
        by_case true wanted = takes plain waits wanted ask
        by_case false other = passes (Step.HandsIn k) by.txn _ refl refl refl
      hears y (Passed plain late is) = subst (λ (w : Txn). Hears w) (sym is) (same (Step.HandsIn k) by.txn _ refl refl refl)
      hears y (OpenDone opens is) = subst (λ (w : Txn). Hears w) (sym is) (same (Step.HandsIn k) by.txn _ refl refl refl)
      hears y (OpenMissed opens is) = subst (λ (w : Txn). Hears w) (sym is) (same (Step.HandsIn k) by.txn _ refl refl refl)

      replies : (i : ℕ) → Moves (Step.HandsIn k) i ((replied (without_first_output m k) k by ask answer).txns i)
      replies i =
          let p = replied_txns (without_first_output m k) k by ask answer in
          subst (λ (f : ℕ → Txn). Moves (Step.HandsIn k) i (f i)) (sym p.is) (only (Step.HandsIn k) by.txn p.after (hears p.after p.heard) i)

    forgets : (step : Step) (ends : ℕ → Bool) (i : ℕ) → Moves step i (forgetting ends k (m.txns i))
    forgets step ends i = forgotten m (λ j (y : Txn). Moves step j y) (stays step) (λ j n. same step j _ refl refl refl) ends k i

    taken : (o : Output) (rest : List Output) → (m.bricks k).outputs ≡ o ∷ rest → (i : ℕ) → Moves (Step.HandsIn k) i ((taken_in (without_first_output m k) k o).txns i)
    taken (Answered by ask answer) rest front i = by_case (is_current (m.links k by.graph) by.connection) refl where
      by_case : (b : Bool) → is_current (m.links k by.graph) by.connection ≡ b → Moves (Step.HandsIn k) i ((if b then replied (without_first_output m k) k by ask answer else without_first_output m k).txns i)
      by_case true current = replies by ask answer rest front current i
      by_case false late = stays (Step.HandsIn k) i
    taken Closed rest front i = forgets (Step.HandsIn k) (λ g. true) i
    taken Opened rest front i = stays (Step.HandsIn k) i
    taken (Connected graph) rest front i = stays (Step.HandsIn k) i

    hands : (os : List Output) → (m.bricks k).outputs ≡ os → (i : ℕ) → Moves (Step.HandsIn k) i ((take_in_front (without_first_output m k) k os).txns i)
    hands [] front i = stays (Step.HandsIn k) i
    hands (o ∷ os) front i = taken o os front i

  -- ---- every step

  moves_by : (step : Step) → Allowed size m step → (i : ℕ) → Moves step i ((after size m step).txns i)
  moves_by (Step.Turns t turn) h = turned t turn h
  moves_by (Step.Asks t k first ask) h = only (Step.Asks t k first ask) t (asking (m.txns t) k (m.links k (m.txns t).graph).last first ask) (same (Step.Asks t k first ask) t _ refl refl refl)
  moves_by (Step.HandsIn k) h = hands k (m.bricks k).outputs refl
  moves_by (Step.Bails t k) h = only (Step.Bails t k) t (missing (record (m.txns t) { waits = with_at (m.txns t).waits k false }) k) (passes (Step.Bails t k) t _ refl refl refl)
  moves_by (Step.Misses t k) h = only (Step.Misses t k) t (record (m.txns t) { left = with_at (m.txns t).left k false; out = with_at (m.txns t).out k true }) (same (Step.Misses t k) t _ refl refl refl)
  moves_by (Step.Cuts k g) h = forgets k (Step.Cuts k g) (λ other. other == g)
  moves_by (Step.Unsettles t) h = table (Step.Unsettles t) (with_at m.txns t (entering (m.txns t) (Applying h.change) (m.txns t).confirmed)) ((unsettling m t (m.txns t).stage).txns) (ap (λ s. (unsettling m t s).txns) h.turn) (only (Step.Unsettles t) t (entering (m.txns t) (Applying h.change) (m.txns t).confirmed) (none (Step.Unsettles t) t (entering (m.txns t) (Applying h.change) (m.txns t).confirmed) refl))
  moves_by (Step.Decides t) h = table (Step.Decides t) m.txns ((decided m (decided_by (m.txns t).stage)).txns) (decided_txns m (decided_by (m.txns t).stage)) (stays (Step.Decides t))
  moves_by other h = λ i. stays other i

pub bear_moves : (size : Size) (m : State) (step : Step) → Allowed size m step → (t : ℕ) → ((after size m step).txns t).stage ≡ Bearing → BearMove size m step t ((after size m step).txns t)
bear_moves size m step allowed t is = moves_by size m step allowed t is
