-- What a step makes of a lock phase: it stays, ends now, or one thing is noted in it.
use Rattle.std.proofs.Common.{◌≡◌, ℕ, ◌+◌, Bool, true, false, refl, sym, ap, subst, Option, Some, None}
use Rattle.std.specs.Prelude.{if◌then◌else◌, List, [], ◌∷◌, ◌≢◌, ◌||◌}
use Rattle.fop_types.specs.declared.cells.Cell.{Cell}
use Rattle.fop_types.specs.declared.jobs.Job.TheVariants as job
use Rattle.afr_machine.specs.Replicas.{Size, Replicas, outside, with_at}
use Rattle.afr_machine.specs.Requests.{Sender, Ask, Answer, Output}
use Rattle.afr_machine.specs.Requests.Ask.{Op, Post, Clear, Settle, OpenFirst}
use Rattle.afr_machine.specs.Requests.Output.{Answered, Closed, Opened, Connected}
use Rattle.afr_machine.specs.Phases.{Phase}
use Rattle.afr_machine.specs.Phases.Deciding.{ByPosts, BySettles}
use Rattle.afr_machine.specs.Transactions.{CopyRun, Stage}
use Rattle.afr_machine.specs.Transactions.Work.{Settles}
use Rattle.afr_machine.specs.Transactions.Stage.{Marking, Applying, Copying}
use Rattle.afr_machine.specs.States.{State, is_current, phase_of, with_txn}
use Rattle.afr_machine.specs.Sending.{MayAsk, writes, wrote_if}
use Rattle.afr_machine.specs.Answering.{is_wanted, awaits, landed, at_rest, hearing, applied_by, with_cleared, cleared_for, noting, answered, replied, taken_in, without_first_output}
use Rattle.afr_machine.specs.Turns.{Turn, MayTurn, MayReach, MayMarkNow, MayPostNow, MaySettleNow, after_turn, phase_reached, drawing, posting, settling, bearing, clearing}
use Rattle.afr_machine.specs.Steps.{Step, Allowed, after, take_in_front, unsettling, deciding, decided, decided_by}
use Rattle.afr_machine.proofs.Tables.{at_same, at_other}
use Rattle.afr_laws.proofs.Carry.{at_case}

-- the reply at the front of the brick's outputs is one that its transaction waits for, and what it asked for
pub record IsHandedIn (m : State) (k : ℕ) (by : Sender) (ask : Ask) (answer : Answer) : Type 0 where
  pub rest : List Output
  pub front : (m.bricks k).outputs ≡ Answered by ask answer ∷ rest
  pub current : is_current (m.links k by.graph) by.connection ≡ true
  pub awaited : awaits (m.txns by.txn) k ≡ true
  pub wanted : is_wanted ask answer ≡ true

pub data PhaseMove (size : Size) (m : State) (step : Step) (p : ℕ) (new : Phase) : Type 0 where
  Same : new ≡ m.phases p → PhaseMove size m step p new
  Reaches : (t : ℕ) → step ≡ Step.Turns t Turn.Reaches → MayReach size m t → p ≡ m.ended + 1 → new ≡ phase_reached m t → PhaseMove size m step p new
  Marks : (t : ℕ) → step ≡ Step.Turns t Turn.Marks → MayMarkNow size m t → p ≡ (m.txns t).phase → new ≡ record (m.phases p) { decides = ByPosts (m.drawn + 1) } → PhaseMove size m step p new
  Posts : (t : ℕ) → step ≡ Step.Turns t Turn.Posts → (h : MayPostNow size m t) → p ≡ (m.txns t).phase → new ≡ record (m.phases p) { accused = λ i. (m.phases p).accused i || outside size (m.changes h.change).done i } → PhaseMove size m step p new
  SettlesAs : (t : ℕ) → (group : Replicas) → (adopts : Bool) → step ≡ Step.Turns t (Turn.SettlesAs group adopts) → (h : MaySettleNow size m t group adopts) → p ≡ (m.txns t).phase →
      new ≡ record (m.phases p) { decides = BySettles h.change group adopts; accused = λ i. (m.phases p).accused i || outside size group i } → PhaseMove size m step p new
  Asks : (t k : ℕ) → (first : Bool) → (ask : Ask) → step ≡ Step.Asks t k first ask → MayAsk size m t k ask → writes ask ≡ true → p ≡ (m.txns t).phase → new ≡ record (m.phases p) { wrote = true } → PhaseMove size m step p new
  Clears : (k : ℕ) → (by : Sender) → (cells : List Cell) → (who : Replicas) → (answer : Answer) → (run : CopyRun) → step ≡ Step.HandsIn k → IsHandedIn m k by (Clear cells who) answer → (m.txns by.txn).stage ≡ Copying run →
      p ≡ (m.txns by.txn).phase → new ≡ record (m.phases p) { cleared = with_cleared (m.phases p).cleared run k } → PhaseMove size m step p new
  Confirms : (k : ℕ) → (by : Sender) → (ask : Ask) → (answer : Answer) → step ≡ Step.HandsIn k → IsHandedIn m k by ask answer → p ≡ (m.txns by.txn).phase → new ≡ record (m.phases p) { confirmed = with_at (m.phases p).confirmed k true } → PhaseMove size m step p new

module _ (size : Size) (m : State) where
  abbrev pub Moves : Step → ℕ → Phase → Type 0
  Moves step p q = PhaseMove size m step p q

  same : (step : Step) (p : ℕ) → Moves step p (m.phases p)
  same step p = PhaseMove.Same refl

  one : (step : Step) (p : ℕ) (phase : Phase) → Moves step p phase → (i : ℕ) → Moves step i (with_at m.phases p phase i)
  one step p phase h i = at_case (λ j (q : Phase). Moves step j q) m.phases p phase h i (λ ne. same step i)

  table : (step : Step) (f g : ℕ → Phase) → g ≡ f → ((i : ℕ) → Moves step i (f i)) → (i : ℕ) → Moves step i (g i)
  table step f g is h i = subst (λ (f : ℕ → Phase). Moves step i (f i)) (sym is) (h i)

  -- ---- turns

  module _ (t : ℕ) where
    settles : (group : Replicas) (adopts : Bool) (h : MaySettleNow size m t group adopts) (i : ℕ) → Moves (Step.Turns t (Turn.SettlesAs group adopts)) i ((settling size m t (Settles h.change) group adopts).phases i)
    settles group adopts h i = at_case (λ j (q : Phase). (j ≢ (m.txns t).phase → middle j ≡ m.phases j) → Moves (Step.Turns t (Turn.SettlesAs group adopts)) j q) middle (m.txns t).phase _ (λ other. now) i (λ ne other. PhaseMove.Same (other ne)) (λ ne. at_other m.phases (m.txns t).phase _ i ne) where
      middle : ℕ → Phase
      middle = with_at m.phases (m.txns t).phase (record (phase_of m t) { decides = BySettles h.change group adopts })

      now : Moves (Step.Turns t (Turn.SettlesAs group adopts)) (m.txns t).phase (record (with_at m.phases (m.txns t).phase (record (phase_of m t) { decides = BySettles h.change group adopts }) (m.txns t).phase) { accused = λ i. (with_at m.phases (m.txns t).phase (record (phase_of m t) { decides = BySettles h.change group adopts }) (m.txns t).phase).accused i || outside size group i })
      now = PhaseMove.SettlesAs t group adopts refl h refl (ap (λ (q : Phase). record q { accused = λ i. q.accused i || outside size group i }) (at_same m.phases (m.txns t).phase (record (phase_of m t) { decides = BySettles h.change group adopts })))

    turned : (turn : Turn) → MayTurn size m t turn → (i : ℕ) → Moves (Step.Turns t turn) i ((after_turn size m t turn).phases i)
    turned Turn.Reaches h = one (Step.Turns t Turn.Reaches) (m.ended + 1) (phase_reached m t) (PhaseMove.Reaches t refl h refl refl)
    turned Turn.Marks h =
        table (Step.Turns t Turn.Marks) _ ((drawing m t (m.txns t).job).phases) (ap (λ j. (drawing m t j).phases) h.job_is)
        (one (Step.Turns t Turn.Marks) (m.txns t).phase (record (phase_of m t) { decides = ByPosts (m.drawn + 1) }) (PhaseMove.Marks t refl h refl refl))
    turned Turn.Posts h =
        table (Step.Turns t Turn.Posts) _ ((posting size m t (m.txns t).stage).phases) (ap (λ s. (posting size m t s).phases) h.turn)
        (one (Step.Turns t Turn.Posts) (m.txns t).phase (record (phase_of m t) { accused = λ i. (phase_of m t).accused i || outside size (m.changes h.change).done i }) (PhaseMove.Posts t refl h refl refl))
    turned (Turn.SettlesAs group adopts) h = table (Step.Turns t (Turn.SettlesAs group adopts)) _ ((settling size m t (m.txns t).work group adopts).phases) (ap (λ w. (settling size m t w group adopts).phases) h.work_is) (settles group adopts h)
    turned Turn.Bears h = table (Step.Turns t Turn.Bears) m.phases ((bearing m t (m.txns t).job).phases) (ap (λ j. (bearing m t j).phases) h.job_is) (same (Step.Turns t Turn.Bears))
    turned Turn.Clears h = table (Step.Turns t Turn.Clears) m.phases ((clearing m t (m.txns t).stage).phases) (ap (λ s. (clearing m t s).phases) h.turn) (same (Step.Turns t Turn.Clears))
    turned other h = same (Step.Turns t other)

  -- ---- requests

  asked : (t k : ℕ) (first : Bool) (ask : Ask) → MayAsk size m t k ask → (i : ℕ) → Moves (Step.Asks t k first ask) i (with_at m.phases (m.txns t).phase (wrote_if (writes ask) (phase_of m t)) i)
  asked t k first ask h = one (Step.Asks t k first ask) (m.txns t).phase (wrote_if (writes ask) (phase_of m t)) (by_case (writes ask) refl) where
    by_case : (b : Bool) → writes ask ≡ b → Moves (Step.Asks t k first ask) (m.txns t).phase (wrote_if b (phase_of m t))
    by_case true is = PhaseMove.Asks t k first ask refl h is refl refl
    by_case false is = same (Step.Asks t k first ask) (m.txns t).phase

-- ---- replies

module _ (size : Size) (m : State) (k : ℕ) where
  abbrev n : State
  n = without_first_output m k

  abbrev step : Step
  step = Step.HandsIn k

  clears : (by : Sender) (cells : List Cell) (who : Replicas) (answer : Answer) → IsHandedIn m k by (Clear cells who) answer → (stage : Stage) → (m.txns by.txn).stage ≡ stage → (i : ℕ) → PhaseMove size m (Step.HandsIn k) i ((cleared_for (without_first_output m k) (m.txns by.txn) stage k).phases i)
  clears by cells who answer h (Copying run) is =
      one size m (Step.HandsIn k) (m.txns by.txn).phase (record (phase_of m by.txn) { cleared = with_cleared (phase_of m by.txn).cleared run k }) (PhaseMove.Clears k by cells who answer run refl h is refl refl)
  clears by cells who answer h other is = same size m (Step.HandsIn k)

  applies : (stage : Stage) (i : ℕ) → PhaseMove size m (Step.HandsIn k) i ((applied_by (without_first_output m k) stage k).phases i)
  applies (Applying u) = same size m (Step.HandsIn k)
  applies other = same size m (Step.HandsIn k)

  confirms : (by : Sender) (ask : Ask) (answer : Answer) → IsHandedIn m k by ask answer → (i : ℕ) → PhaseMove size m (Step.HandsIn k) i (with_at m.phases (m.txns by.txn).phase (record (phase_of m by.txn) { confirmed = with_at (phase_of m by.txn).confirmed k true }) i)
  confirms by ask answer h = one size m (Step.HandsIn k) (m.txns by.txn).phase (record (phase_of m by.txn) { confirmed = with_at (phase_of m by.txn).confirmed k true }) (PhaseMove.Confirms k by ask answer refl h refl refl)

  notes : (by : Sender) (ask : Ask) (answer : Answer) → IsHandedIn m k by ask answer → (i : ℕ) → PhaseMove size m (Step.HandsIn k) i ((noting (without_first_output m k) (m.txns by.txn) k ask).phases i)
  notes by (Op u op) answer h = applies (m.txns by.txn).stage
  notes by (Post u cells accused) answer h = confirms by (Post u cells accused) answer h
  notes by (Clear cells who) answer h = clears by cells who answer h (m.txns by.txn).stage refl
  notes by (Settle u cells accused) answer h = confirms by (Settle u cells accused) answer h
  notes by other answer h = same size m (Step.HandsIn k)

  module _ (by : Sender) (ask : Ask) (answer : Answer) (rest : List Output) (front : (m.bricks k).outputs ≡ Answered by ask answer ∷ rest) (current : is_current (m.links k by.graph) by.connection ≡ true) where
    answers : (i : ℕ) → PhaseMove size m (Step.HandsIn k) i ((answered (without_first_output m k) k by ask answer).phases i)
    answers i = by_case (awaits (m.txns by.txn) k) refl (is_wanted ask answer) refl where
      wants : (c : Bool) → is_wanted ask answer ≡ c → awaits (m.txns by.txn) k ≡ true → PhaseMove size m (Step.HandsIn k) i ((if c then noting (without_first_output m k) (m.txns by.txn) k ask else without_first_output m k).phases i)
      wants true wanted waits = notes by ask answer (record { rest = rest; front = front; current = current; awaited = waits; wanted = wanted }) i
      wants false wanted waits = same size m (Step.HandsIn k) i

      by_case : (b : Bool) → awaits (m.txns by.txn) k ≡ b → (c : Bool) → is_wanted ask answer ≡ c →
          PhaseMove size m (Step.HandsIn k) i ((if b then with_txn (if c then noting (without_first_output m k) (m.txns by.txn) k ask else without_first_output m k) by.txn (hearing (at_rest (m.txns by.txn) k) k by.connection ask answer) else with_txn (without_first_output m k) by.txn (landed (m.txns by.txn) k)).phases i)
      by_case true waits c is = wants c is waits
      by_case false waits c is = same size m (Step.HandsIn k) i

  replies : (by : Sender) (ask : Ask) (answer : Answer) (rest : List Output) → (m.bricks k).outputs ≡ Answered by ask answer ∷ rest → is_current (m.links k by.graph) by.connection ≡ true → (i : ℕ) → PhaseMove size m (Step.HandsIn k) i ((replied (without_first_output m k) k by ask answer).phases i)
  replies by OpenFirst answer rest front current = same size m (Step.HandsIn k)
  replies by other answer rest front current = answers by other answer rest front current

  takes : (o : Output) (rest : List Output) → (m.bricks k).outputs ≡ o ∷ rest → (i : ℕ) → PhaseMove size m (Step.HandsIn k) i ((taken_in (without_first_output m k) k o).phases i)
  takes (Answered by ask answer) rest front i = by_case (is_current (m.links k by.graph) by.connection) refl where
    by_case : (b : Bool) → is_current (m.links k by.graph) by.connection ≡ b → PhaseMove size m (Step.HandsIn k) i ((if b then replied (without_first_output m k) k by ask answer else without_first_output m k).phases i)
    by_case true current = replies by ask answer rest front current i
    by_case false current = same size m (Step.HandsIn k) i
  takes Closed rest front i = same size m (Step.HandsIn k) i
  takes Opened rest front i = same size m (Step.HandsIn k) i
  takes (Connected graph) rest front i = same size m (Step.HandsIn k) i

  hands : (os : List Output) → (m.bricks k).outputs ≡ os → (i : ℕ) → PhaseMove size m (Step.HandsIn k) i ((take_in_front (without_first_output m k) k os).phases i)
  hands [] front i = same size m (Step.HandsIn k) i
  hands (o ∷ os) front i = takes o os front i

-- ---- other steps

module _ (size : Size) (m : State) where
  unsettles : (t : ℕ) (stage : Stage) (i : ℕ) → PhaseMove size m (Step.Unsettles t) i ((unsettling m t stage).phases i)
  unsettles t (Marking u) i = same size m (Step.Unsettles t) i
  unsettles t other i = same size m (Step.Unsettles t) i

  decides : (t : ℕ) (d : Option (ℕ × Bool)) (i : ℕ) → PhaseMove size m (Step.Decides t) i ((decided m d).phases i)
  decides t None i = same size m (Step.Decides t) i
  decides t (Some d) i = by_case d.1 _ where
    by_case : (a b : Bool) → PhaseMove size m (Step.Decides t) i ((deciding m d.0 a b).phases i)
    by_case a false = same size m (Step.Decides t) i
    by_case true true = same size m (Step.Decides t) i
    by_case false true = same size m (Step.Decides t) i

pub phase_moves : (size : Size) (m : State) (step : Step) → Allowed size m step → (p : ℕ) → PhaseMove size m step p ((after size m step).phases p)
phase_moves size m (Step.Turns t turn) h = turned size m t turn h
phase_moves size m (Step.Asks t k first ask) h = asked size m t k first ask h.0
phase_moves size m (Step.HandsIn k) h = hands size m k (m.bricks k).outputs refl
phase_moves size m (Step.Unsettles t) h = unsettles size m t (m.txns t).stage
phase_moves size m (Step.Decides t) h = decides size m t (decided_by (m.txns t).stage)
phase_moves size m other h = same size m other
