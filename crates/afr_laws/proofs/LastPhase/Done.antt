-- A change that was drawn keeps its cells, and who applied it stays among those that did.
use Rattle.std.proofs.Common.{◌≡◌, ◌∙◌, ℕ, ◌+◌, ◌≤◌, Bool, true, false, refl, ap, arith, Option}
use Rattle.std.specs.Prelude.{if◌then◌else◌, List, [], ◌∷◌}
use Rattle.fop_types.specs.declared.jobs.Job.{Job}
use Rattle.fop_types.specs.declared.jobs.Job.TheVariants as job
use Rattle.afr_machine.specs.Replicas.{Size, with_at}
use Rattle.afr_machine.specs.Requests.{Sender, Ask, Answer, Output}
use Rattle.afr_machine.specs.Requests.Ask.{Op, Clear, OpenFirst}
use Rattle.afr_machine.specs.Requests.Output.{Answered}
use Rattle.afr_machine.specs.Changes.{Change}
use Rattle.afr_machine.specs.Transactions.{Work, Stage, Txn}
use Rattle.afr_machine.specs.Transactions.Work.{Own, Settles}
use Rattle.afr_machine.specs.Transactions.Stage.{Applying, Marking, Copying}
use Rattle.afr_machine.specs.States.{State, is_current, with_txn}
use Rattle.afr_machine.specs.Answering.{is_wanted, awaits, landed, at_rest, hearing, applied_by, cleared_for, noting, answered, replied, taken_in, without_first_output}
use Rattle.afr_machine.specs.Turns.{Turn, after_turn, drawing, posting, settling, bearing, clearing}
use Rattle.afr_machine.specs.Steps.{Step, after, take_in_front, unsettling, deciding, decided, decided_by}
use Rattle.afr_machine.proofs.Tables.{at_other}
use Rattle.afr_laws.proofs.Carry.{at_case}

pub record ChangeGoes (old new : Change) : Type 0 where
  pub cells : new.cells ≡ old.cells
  pub done : (k : ℕ) → old.done k ≡ true → new.done k ≡ true

-- of the changes that were drawn by now
abbrev pub DoneGoes : ℕ → (ℕ → Change) → (ℕ → Change) → Type 0
DoneGoes drawn old new = (u : ℕ) → u ≤ drawn → ChangeGoes (old u) (new u)

same_done : (drawn : ℕ) (changes : ℕ → Change) → DoneGoes drawn changes changes
same_done drawn changes u low = record { cells = refl; done = λ k h. h }

one_done : (drawn : ℕ) (changes : ℕ → Change) (v : ℕ) (c : Change) → ChangeGoes (changes v) c → DoneGoes drawn changes (with_at changes v c)
one_done drawn changes v c goes u low = at_case (λ n (d : Change). ChangeGoes (changes n) d) changes v c goes u (λ ne. record { cells = refl; done = λ k h. h })

module _ (m : State) where
  applied_done : (stage : Stage) (k : ℕ) → DoneGoes m.drawn m.changes (applied_by m stage k).changes
  applied_done (Applying u) k = one_done m.drawn m.changes u (record (m.changes u) { done = with_at (m.changes u).done k true }) (record { cells = refl; done = λ j h. at_case (λ n b. (m.changes u).done n ≡ true → b ≡ true) (m.changes u).done k true (λ e. refl) j (λ ne e. e) h })
  applied_done other k = same_done m.drawn m.changes

  cleared_done : (x : Txn) (stage : Stage) (k : ℕ) → DoneGoes m.drawn m.changes (cleared_for m x stage k).changes
  cleared_done x (Copying run) k = same_done m.drawn m.changes
  cleared_done x other k = same_done m.drawn m.changes

  noting_done : (x : Txn) (k : ℕ) (ask : Ask) → DoneGoes m.drawn m.changes (noting m x k ask).changes
  noting_done x k (Op change op) = applied_done x.stage k
  noting_done x k (Clear cells who) = cleared_done x x.stage k
  noting_done x k other = same_done m.drawn m.changes

  answered_done : (k : ℕ) (by : Sender) (ask : Ask) (answer : Answer) → DoneGoes m.drawn m.changes (answered m k by ask answer).changes
  answered_done k by ask answer = by_case (awaits (m.txns by.txn) k) (is_wanted ask answer) where
    wanted : (c : Bool) → DoneGoes m.drawn m.changes (if c then noting m (m.txns by.txn) k ask else m).changes
    wanted true = noting_done (m.txns by.txn) k ask
    wanted false = same_done m.drawn m.changes

    by_case : (b c : Bool) → DoneGoes m.drawn m.changes (if b then with_txn (if c then noting m (m.txns by.txn) k ask else m) by.txn (hearing (at_rest (m.txns by.txn) k) k by.connection ask answer) else with_txn m by.txn (landed (m.txns by.txn) k)).changes
    by_case true c = wanted c
    by_case false c = same_done m.drawn m.changes

  replied_done : (k : ℕ) (by : Sender) (ask : Ask) (answer : Answer) → DoneGoes m.drawn m.changes (replied m k by ask answer).changes
  replied_done k by OpenFirst answer = same_done m.drawn m.changes
  replied_done k by other answer = answered_done k by other answer

  taken_done : (k : ℕ) (o : Output) → DoneGoes m.drawn m.changes (taken_in m k o).changes
  taken_done k (Answered by ask answer) = by_case (is_current (m.links k by.graph) by.connection) where
    by_case : (b : Bool) → DoneGoes m.drawn m.changes (if b then replied m k by ask answer else m).changes
    by_case true = replied_done k by ask answer
    by_case false = same_done m.drawn m.changes
  taken_done k other = same_done m.drawn m.changes

  front_done : (k : ℕ) (os : List Output) → DoneGoes m.drawn m.changes (take_in_front m k os).changes
  front_done k [] = same_done m.drawn m.changes
  front_done k (o ∷ os) = taken_done k o

  turned_done : (size : Size) (t : ℕ) (turn : Turn) → DoneGoes m.drawn m.changes (after_turn size m t turn).changes
  turned_done size t Turn.Marks = drawn (m.txns t).job where
    drawn : (own : Job) → DoneGoes m.drawn m.changes (drawing m t own).changes
    drawn (job.Change cells fd op effect) = λ u low. record {
      cells = ap (λ (c : Change). c.cells) (at_other m.changes (m.drawn + 1) _ u (λ e. absurd (omega (arith, e, low))));
      done = λ k h. ap (λ (c : Change). c.done k) (at_other m.changes (m.drawn + 1) _ u (λ e. absurd (omega (arith, e, low)))) ∙ h;
    }
    drawn other = same_done m.drawn m.changes
  turned_done size t Turn.Posts = posted (m.txns t).stage where
    posted : (stage : Stage) → DoneGoes m.drawn m.changes (posting size m t stage).changes
    posted (Applying u) = same_done m.drawn m.changes
    posted other = same_done m.drawn m.changes
  turned_done size t (Turn.SettlesAs group adopts) = settled (m.txns t).work where
    settled : (work : Work) → DoneGoes m.drawn m.changes (settling size m t work group adopts).changes
    settled Own = same_done m.drawn m.changes
    settled (Settles u) = same_done m.drawn m.changes
  turned_done size t Turn.Bears = born (m.txns t).job where
    born : (own : Job) → DoneGoes m.drawn m.changes (bearing m t own).changes
    born (job.Birth cells op) = same_done m.drawn m.changes
    born other = same_done m.drawn m.changes
  turned_done size t Turn.Clears = cleared (m.txns t).stage where
    cleared : (stage : Stage) → DoneGoes m.drawn m.changes (clearing m t stage).changes
    cleared (Copying run) = same_done m.drawn m.changes
    cleared other = same_done m.drawn m.changes
  turned_done size t other = same_done m.drawn m.changes

  unsettled_done : (t : ℕ) (stage : Stage) → DoneGoes m.drawn m.changes (unsettling m t stage).changes
  unsettled_done t (Marking u) = one_done m.drawn m.changes u _ (record { cells = refl; done = λ k h. h })
  unsettled_done t other = same_done m.drawn m.changes

  decided_done : (d : Option (ℕ × Bool)) → DoneGoes m.drawn m.changes (decided m d).changes
  decided_done Option.None = same_done m.drawn m.changes
  decided_done (Option.Some d) = by_case d.1 _ where
    by_case : (a b : Bool) → DoneGoes m.drawn m.changes (deciding m d.0 a b).changes
    by_case a false = same_done m.drawn m.changes
    by_case true true = one_done m.drawn m.changes d.0 _ (record { cells = refl; done = λ k h. h })
    by_case false true = one_done m.drawn m.changes d.0 _ (record { cells = refl; done = λ k h. h })

pub step_done : (size : Size) (m : State) (step : Step) → DoneGoes m.drawn m.changes (after size m step).changes
step_done size m (Step.Turns t turn) = turned_done m size t turn
step_done size m (Step.HandsIn k) = front_done (without_first_output m k) k (m.bricks k).outputs
step_done size m (Step.Unsettles t) = unsettled_done m t (m.txns t).stage
step_done size m (Step.Decides t) = decided_done m (decided_by (m.txns t).stage)
step_done size m other = same_done m.drawn m.changes
