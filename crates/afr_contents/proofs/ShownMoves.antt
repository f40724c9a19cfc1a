-- What a transaction shows after a step: what it showed before, or what a fetch gives it now.
use Rattle.std.proofs.Common.{◌≡◌, ◌∙◌, ℕ, ◌+◌, Bool, true, false, refl, sym, ap, subst, ◌⊎◌, inl, inr, Option, Some, None}
use Rattle.std.specs.Prelude.{if◌then◌else◌, List, [], ◌∷◌, ◌||◌, ◌==◌, not}
use Rattle.fop_types.specs.declared.cells.Cell.{Cell}
use Rattle.afr_machine.specs.Replicas.{Size, outside, with_at}
use Rattle.afr_machine.specs.Touching.{is_cell, has_cell}
use Rattle.afr_machine.specs.Copies.{Fetched}
use Rattle.afr_machine.specs.Requests.{Sender, Ask, Answer, Output}
use Rattle.afr_machine.specs.Requests.Ask.{Lock, Fetch, Replace}
use Rattle.afr_machine.specs.Requests.Answer.{Rows, Content}
use Rattle.afr_machine.specs.Requests.Output.{Answered, Closed, Opened, Connected}
use Rattle.afr_machine.specs.Transactions.{Work, Stage, Txn, new_txn}
use Rattle.afr_machine.specs.Transactions.Work.{Own, Settles}
use Rattle.afr_machine.specs.Transactions.Stage.{Over, Locking, Locked, Marking, Applying, Posting, Settling, Bearing, Copying, Polling, Unlocking}
use Rattle.afr_machine.specs.States.{State, is_current}
use Rattle.afr_machine.specs.Sending.{asking}
use Rattle.afr_machine.specs.Answering.{is_wanted, missing, with_fetched, granting, having, fetching, replacing, taking, awaits, at_rest, forgetting, replied, taken_in, without_first_output}
use Rattle.afr_machine.specs.Turns.{Turn, MayTurn, entering, members, open_grants, after_turn, locking_for, skipping, resting, drawing, posting, settling, bearing, clearing}
use Rattle.afr_machine.specs.Steps.{Step, Allowed, after, take_in_front, unsettling, decided, decided_by}
use Rattle.afr_laws.proofs.Bools.{or_right}
use Rattle.afr_laws.proofs.Carry.{at_case}
use Rattle.afr_laws.proofs.EachTxn.{forgotten}
use Rattle.afr_laws.proofs.Goes.{decided_txns}
use Rattle.afr_laws.proofs.Heard.{Heard, replied_txns}
use Rattle.afr_laws.proofs.Heard.Heard.{Took, Passed, OpenDone, OpenMissed}
use Rattle.afr_laws.proofs.Sharing.{cells_are}
use Rattle.afr_soundness.specs.Copied.{is_copying}
use Rattle.afr_soundness.proofs.PhaseMoves.{IsHandedIn}

-- the answer of its fetch is handed in now
pub record ShowsNow (m : State) (step : Step) (t : ℕ) (cell : Cell) (found : Fetched) : Type 0 where
  pub brick : ℕ
  pub by : Sender
  pub is : step ≡ Step.HandsIn brick
  pub handed : IsHandedIn m brick by (Fetch cell) (Content found)
  pub txn : by.txn ≡ t
  pub plain : is_copying (m.txns t).stage ≡ false

module _ (size : Size) (m : State) where
  abbrev Moves : Step → ℕ → Txn → Type 0
  Moves step t y = (cell : Cell) (found : Fetched) → y.shown cell ≡ Some found → ((m.txns t).shown cell ≡ Some found) ⊎ ShowsNow m step t cell found

  same : (step : Step) (t : ℕ) (y : Txn) → y.shown ≡ (m.txns t).shown → Moves step t y
  same step t y is cell found h = inl (sym (ap (λ (f : Cell → Option Fetched). f cell) is) ∙ h)

  stays : (step : Step) (t : ℕ) → Moves step t (m.txns t)
  stays step t cell found h = inl h

  only : (step : Step) (t : ℕ) (y : Txn) → Moves step t y → (i : ℕ) → Moves step i (with_at m.txns t y i)
  only step t y h i = at_case (λ j (z : Txn). Moves step j z) m.txns t y h i (λ ne. stays step i)

  one : (step : Step) (t : ℕ) (y : Txn) → y.shown ≡ (m.txns t).shown → (i : ℕ) → Moves step i (with_at m.txns t y i)
  one step t y is = only step t y (same step t y is)

  table : (step : Step) (f g : ℕ → Txn) → g ≡ f → ((i : ℕ) → Moves step i (f i)) → (i : ℕ) → Moves step i (g i)
  table step f g is h i = subst (λ (f : ℕ → Txn). Moves step i (f i)) (sym is) (h i)

  -- ---- turns

  module _ (t : ℕ) where
    abbrev x : Txn
    x = m.txns t

    skips : (stage : Stage) → (skipping x stage).shown ≡ x.shown
    skips (Locking cells shared next) = refl
    skips other = refl

    locks : (work : Work) → (locking_for m x work).shown ≡ x.shown
    locks Own = refl
    locks (Settles u) = refl

    turned : (turn : Turn) → MayTurn size m t turn → (i : ℕ) → Moves (Step.Turns t turn) i ((after_turn size m t turn).txns i)
    turned (Turn.Begins graph job) h = only (Step.Turns t (Turn.Begins graph job)) t (new_txn graph job) (λ cell found is. absurd (let no : None ≡ Some found = is in cc))
    turned (Turn.LocksFor work) h = one (Step.Turns t (Turn.LocksFor work)) t (locking_for m x work) (locks work)
    turned Turn.Skips h = one (Step.Turns t Turn.Skips) t (skipping x x.stage) (skips x.stage)
    turned Turn.Reaches h = one (Step.Turns t Turn.Reaches) t (record x { stage = Locked; phase = m.ended + 1; out = λ k. x.out k || not (open_grants m t k) }) refl
    turned Turn.Marks h =
        table (Step.Turns t Turn.Marks) (with_at m.txns t (record (entering x (Marking (m.drawn + 1)) (members m t)) { own = m.drawn + 1 })) ((drawing m t x.job).txns) (ap (λ j. (drawing m t j).txns) h.job_is)
        (one (Step.Turns t Turn.Marks) t (record (entering x (Marking (m.drawn + 1)) (members m t)) { own = m.drawn + 1 }) refl)
    turned Turn.Posts h =
        table (Step.Turns t Turn.Posts) (with_at m.txns t (entering x (Posting h.change) (m.changes h.change).done)) ((posting size m t x.stage).txns) (ap (λ s. (posting size m t s).txns) h.turn)
        (one (Step.Turns t Turn.Posts) t (entering x (Posting h.change) (m.changes h.change).done) refl)
    turned (Turn.SettlesAs group adopts) h =
        table (Step.Turns t (Turn.SettlesAs group adopts)) (with_at m.txns t (entering x (Settling h.change group adopts) (members m t))) ((settling size m t x.work group adopts).txns) (ap (λ w. (settling size m t w group adopts).txns) h.work_is)
        (one (Step.Turns t (Turn.SettlesAs group adopts)) t (entering x (Settling h.change group adopts) (members m t)) refl)
    turned Turn.Bears h =
        table (Step.Turns t Turn.Bears) (with_at m.txns t (entering x Bearing (members m t))) ((bearing m t x.job).txns) (ap (λ j. (bearing m t j).txns) h.job_is) (one (Step.Turns t Turn.Bears) t (entering x Bearing (members m t)) refl)
    turned Turn.Confirms h = stays (Step.Turns t Turn.Confirms)
    turned (Turn.Copies run) h = one (Step.Turns t (Turn.Copies run)) t (entering x (Copying run) (λ k. false)) refl
    turned Turn.Clears h =
        table (Step.Turns t Turn.Clears) (with_at m.txns t (entering x (Copying (record h.run { clears = true })) (members m t))) ((clearing m t x.stage).txns) (ap (λ s. (clearing m t s).txns) h.turn)
        (one (Step.Turns t Turn.Clears) t (entering x (Copying (record h.run { clears = true })) (members m t)) refl)
    turned Turn.Polls h = one (Step.Turns t Turn.Polls) t (entering x Polling (outside size x.out)) refl
    turned Turn.Unlocks h = one (Step.Turns t Turn.Unlocks) t (entering x Unlocking (open_grants m t)) refl
    turned Turn.Rests h = one (Step.Turns t Turn.Rests) t (resting m t) refl
    turned Turn.Ends h = one (Step.Turns t Turn.Ends) t (record x { stage = Over }) refl

  -- ---- replies, with the front of the outputs

  module _ (k : ℕ) where
    module _ (by : Sender) (ask : Ask) (answer : Answer) (rest : List Output) (front : (m.bricks k).outputs ≡ Answered by ask answer ∷ rest) (current : is_current (m.links k by.graph) by.connection ≡ true) where
      abbrev Hears : Txn → Type 0
      Hears y = Moves (Step.HandsIn k) by.txn y

      abbrev z : Txn
      z = at_rest (m.txns by.txn) k

      handed : awaits (m.txns by.txn) k ≡ true → is_wanted ask answer ≡ true → (a : Ask) (b : Answer) → ask ≡ a → answer ≡ b → IsHandedIn m k by a b
      handed waits wanted a b ask_is answer_is = subst (λ c. IsHandedIn m k by c b) ask_is (subst (IsHandedIn m k by ask) answer_is (record { rest = rest; front = front; current = current; awaited = waits; wanted = wanted }))

      grants : (shared : Bool) (cells : List Cell) (a : Answer) → Hears (granting z k by.connection shared cells a)
      grants shared cells (Rows rows) = λ c f h. inl h
      grants shared cells other = stays (Step.HandsIn k) by.txn

      -- the content that came last
      last_one : (cell : Cell) (found : Fetched) → IsHandedIn m k by (Fetch cell) (Content found) → is_copying (m.txns by.txn).stage ≡ false → (other : Cell) (shown : Fetched) → with_fetched (m.txns by.txn).shown cell found other ≡ Some shown → ((m.txns by.txn).shown other ≡ Some shown) ⊎ ShowsNow m (Step.HandsIn k) by.txn other shown
      last_one cell found h plain other shown is = by_case (has_cell (cell ∷ []) other) refl is where
        by_case : (b : Bool) → has_cell (cell ∷ []) other ≡ b → (if b then Some found else (m.txns by.txn).shown other) ≡ Some shown → ((m.txns by.txn).shown other ≡ Some shown) ⊎ ShowsNow m (Step.HandsIn k) by.txn other shown
        by_case false none e = inl e
        by_case true here e =
            let at : other ≡ cell = cells_are other cell (sym (or_right (is_cell other cell)) ∙ here) in
            let now : found ≡ shown = cc in
            inr (record { brick = k; by = by; is = refl; handed = subst (λ f. IsHandedIn m k by (Fetch other) (Content f)) now (subst (λ c. IsHandedIn m k by (Fetch c) (Content found)) (sym at) h); txn = refl; plain = plain })

      fetches : (cell : Cell) (found : Fetched) → IsHandedIn m k by (Fetch cell) (Content found) → (stage : Stage) → (m.txns by.txn).stage ≡ stage → Hears (fetching z stage cell found)
      fetches cell found h (Copying before) is = λ c f h. inl h
      fetches cell found h other is = last_one cell found h (ap is_copying is)

      replaces : (cell : Cell) (stage : Stage) → Hears (replacing z stage k cell)
      replaces cell (Copying before) = λ c f h. inl h
      replaces cell other = stays (Step.HandsIn k) by.txn

      has : awaits (m.txns by.txn) k ≡ true → is_wanted ask answer ≡ true → (cell : Cell) → ask ≡ Fetch cell → (b : Answer) → answer ≡ b → Hears (having z cell b)
      has waits wanted cell ask_is (Content found) answer_is = fetches cell found (handed waits wanted (Fetch cell) (Content found) ask_is answer_is) (m.txns by.txn).stage refl
      has waits wanted cell ask_is other answer_is = stays (Step.HandsIn k) by.txn

      takes : awaits (m.txns by.txn) k ≡ true → is_wanted ask answer ≡ true → (a : Ask) → ask ≡ a → Hears (taking z k by.connection a answer)
      takes waits wanted (Lock shared cells) is = grants shared cells answer
      takes waits wanted (Fetch cell) is = has waits wanted cell is answer refl
      takes waits wanted (Replace cell found) is = replaces cell (m.txns by.txn).stage
      takes waits wanted other is = stays (Step.HandsIn k) by.txn

      hears : (y : Txn) → Heard (m.txns by.txn) y k by.connection ask answer → Hears y
      hears y (Took plain waits flights is) = subst Hears (sym is) (by_case (is_wanted ask answer) refl) where
        by_case : (b : Bool) → is_wanted ask answer ≡ b → Hears (if b then taking z k by.connection ask answer else missing z k)
        by_case true wanted = takes waits wanted ask refl
        by_case false other = λ c f h. inl h
      hears y (Passed plain late is) = same (Step.HandsIn k) by.txn y (ap (λ (w : Txn). w.shown) is)
      hears y (OpenDone opens is) = same (Step.HandsIn k) by.txn y (ap (λ (w : Txn). w.shown) is)
      hears y (OpenMissed opens is) = same (Step.HandsIn k) by.txn y (ap (λ (w : Txn). w.shown) is)

      replies : (i : ℕ) → Moves (Step.HandsIn k) i ((replied (without_first_output m k) k by ask answer).txns i)
      replies i =
          let p = replied_txns (without_first_output m k) k by ask answer in
          subst (λ (f : ℕ → Txn). Moves (Step.HandsIn k) i (f i)) (sym p.is) (only (Step.HandsIn k) by.txn p.after (hears p.after p.heard) i)

    forgets : (step : Step) (ends : ℕ → Bool) (i : ℕ) → Moves step i (forgetting ends k (m.txns i))
    forgets step ends i = forgotten m (Moves step) (stays step) (λ j n. stays step j) ends k i

    taken : (o : Output) (rest : List Output) → (m.bricks k).outputs ≡ o ∷ rest → (i : ℕ) → Moves (Step.HandsIn k) i ((taken_in (without_first_output m k) k o).txns i)
    taken (Answered by ask answer) rest front i = by_case (is_current (m.links k by.graph) by.connection) refl where
      by_case : (b : Bool) → is_current (m.links k by.graph) by.connection ≡ b → Moves (Step.HandsIn k) i ((if b then replied (without_first_output m k) k by ask answer else without_first_output m k).txns i)
      by_case true current = replies by ask answer rest front current i
      by_case false late = stays (Step.HandsIn k) i
    taken Closed rest front i = forgets (Step.HandsIn k) (λ g. true) i
    taken Opened rest front i = stays (Step.HandsIn k) i
    taken (Connected graph) rest front i = stays (Step.HandsIn k) i

    hands : (os : List Output) → (m.bricks k).outputs ≡ os → (i : ℕ) → Moves (Step.HandsIn k) i ((take_in_front (without_first_output m k) k os).txns i)
    hands [] front i = stays (Step.HandsIn k) i
    hands (o ∷ os) front i = taken o os front i

  -- ---- every step

  moves_by : (step : Step) → Allowed size m step → (i : ℕ) → Moves step i ((after size m step).txns i)
  moves_by (Step.Turns t turn) h = turned t turn h
  moves_by (Step.Asks t k first ask) h = one (Step.Asks t k first ask) t (asking (m.txns t) k (m.links k (m.txns t).graph).last first ask) refl
  moves_by (Step.HandsIn k) h = hands k (m.bricks k).outputs refl
  moves_by (Step.Bails t k) h = one (Step.Bails t k) t (missing (record (m.txns t) { waits = with_at (m.txns t).waits k false }) k) refl
  moves_by (Step.Misses t k) h = one (Step.Misses t k) t (record (m.txns t) { left = with_at (m.txns t).left k false; out = with_at (m.txns t).out k true }) refl
  moves_by (Step.Cuts k g) h = forgets k (Step.Cuts k g) (λ other. other == g)
  moves_by (Step.Unsettles t) h = table (Step.Unsettles t) (with_at m.txns t (entering (m.txns t) (Applying h.change) (m.txns t).confirmed)) ((unsettling m t (m.txns t).stage).txns) (ap (λ s. (unsettling m t s).txns) h.turn) (one (Step.Unsettles t) t (entering (m.txns t) (Applying h.change) (m.txns t).confirmed) refl)
  moves_by (Step.Decides t) h = table (Step.Decides t) m.txns ((decided m (decided_by (m.txns t).stage)).txns) (decided_txns m (decided_by (m.txns t).stage)) (stays (Step.Decides t))
  moves_by other h = stays other

pub shown_from : (size : Size) (m : State) (step : Step) → Allowed size m step → (t : ℕ) (cell : Cell) (found : Fetched) → ((after size m step).txns t).shown cell ≡ Some found → ((m.txns t).shown cell ≡ Some found) ⊎ ShowsNow m step t cell found
shown_from size m step allowed t cell found h = moves_by size m step allowed t cell found h
