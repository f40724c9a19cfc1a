-- Lock phases that have ended keep their cells, and stay written.
use Rattle.std.proofs.Common.{◌≡◌, ◌∙◌, ℕ, ◌+◌, Bool, true, false, refl, ap, arith, Option}
use Rattle.std.specs.Prelude.{if◌then◌else◌, List, [], ◌∷◌}
use Rattle.fop_types.specs.declared.jobs.Job.{Job}
use Rattle.fop_types.specs.declared.jobs.Job.TheVariants as job
use Rattle.afr_machine.specs.Replicas.{Size, with_at}
use Rattle.afr_machine.specs.Requests.{Sender, Ask, Answer, Output}
use Rattle.afr_machine.specs.Requests.Ask.{Op, Post, Clear, Settle, OpenFirst}
use Rattle.afr_machine.specs.Requests.Output.{Answered}
use Rattle.afr_machine.specs.Phases.{Phase}
use Rattle.afr_machine.specs.Phases.Deciding.{BySettles}
use Rattle.afr_machine.specs.Transactions.{Work, Stage, Txn}
use Rattle.afr_machine.specs.Transactions.Work.{Own, Settles}
use Rattle.afr_machine.specs.Transactions.Stage.{Applying, Marking, Copying}
use Rattle.afr_machine.specs.States.{State, is_current, phase_of, with_txn}
use Rattle.afr_machine.specs.Sending.{writes, wrote_if, after_asking}
use Rattle.afr_machine.specs.Answering.{is_wanted, awaits, landed, at_rest, hearing, applied_by, cleared_for, noting, answered, replied, taken_in}
use Rattle.afr_machine.specs.Turns.{Turn, after_turn, deciding_now, drawing, posting, settling, bearing, clearing}
use Rattle.afr_machine.specs.Steps.{take_in_front, unsettling, deciding, decided}
use Rattle.afr_machine.proofs.Tables.{at_other}
use Rattle.afr_laws.proofs.Bools.{or_left, or_last}
use Rattle.afr_laws.proofs.Carry.{at_case}
use Rattle.afr_laws.proofs.Fresh.Phased.{ClearedGoes, PhasesGo, same_phases}

-- one phase with the same cells, and written where it was
pub one_goes : (ended : ℕ) (phases : ℕ → Phase) (p : ℕ) (phase : Phase) → phase.by ≡ (phases p).by → phase.cells ≡ (phases p).cells → phase.reached ≡ (phases p).reached → phase.rows ≡ (phases p).rows → ((i : ℕ) → (phases p).accused i ≡ true → phase.accused i ≡ true) → ClearedGoes (phases p) phase → ((phases p).wrote ≡ true → phase.wrote ≡ true) → PhasesGo ended phases (with_at phases p phase)
one_goes ended phases p phase by cells reached rows accused cleared wrote = record {
  cleared = λ q low. at_case (λ n (x : Phase). ClearedGoes (phases n) x) phases p phase cleared q (λ ne i cell k h. h);
  accused = λ q low. at_case (λ n (x : Phase). (i : ℕ) → (phases n).accused i ≡ true → x.accused i ≡ true) phases p phase accused q (λ ne i h. h);
  rows = λ q low. at_case (λ n (x : Phase). x.rows ≡ (phases n).rows) phases p phase rows q (λ ne. refl);
  reached = λ q low. at_case (λ n (x : Phase). x.reached ≡ (phases n).reached) phases p phase reached q (λ ne. refl);
  by = λ q low. at_case (λ n (x : Phase). x.by ≡ (phases n).by) phases p phase by q (λ ne. refl);
  cells = λ q low. at_case (λ n (x : Phase). x.cells ≡ (phases n).cells) phases p phase cells q (λ ne. refl);
  wrote = λ q low. at_case (λ n (x : Phase). (phases n).wrote ≡ true → x.wrote ≡ true) phases p phase wrote q (λ ne h. h);
}

then_goes : (ended : ℕ) (a b c : ℕ → Phase) → PhasesGo ended a b → PhasesGo ended b c → PhasesGo ended a c
then_goes ended a b c g h = record { by = λ p low. h.by p low ∙ g.by p low; cells = λ p low. h.cells p low ∙ g.cells p low; reached = λ p low. h.reached p low ∙ g.reached p low; rows = λ p low. h.rows p low ∙ g.rows p low; accused = λ p low i w. h.accused p low i (g.accused p low i w); cleared = λ p low i cell k w. h.cleared p low i cell k (g.cleared p low i cell k w); wrote = λ p low w. h.wrote p low (g.wrote p low w) }

wrote_stays : (writing : Bool) (phase : Phase) → ((wrote_if writing phase).by ≡ phase.by) × (((wrote_if writing phase).cells ≡ phase.cells) × (((wrote_if writing phase).reached ≡ phase.reached) × (((wrote_if writing phase).rows ≡ phase.rows) × (((i : ℕ) → phase.accused i ≡ true → (wrote_if writing phase).accused i ≡ true) × (ClearedGoes phase (wrote_if writing phase) × (phase.wrote ≡ true → (wrote_if writing phase).wrote ≡ true))))))
wrote_stays true phase = (refl, (refl, (refl, (refl, (λ i h. h, (λ i cell k h. h, λ h. refl))))))
wrote_stays false phase = (refl, (refl, (refl, (refl, (λ i h. h, (λ i cell k h. h, λ h. h))))))

module _ (m : State) where
  -- ---- replies

  cleared_phases : (x : Txn) (stage : Stage) (k : ℕ) → PhasesGo m.ended m.phases (cleared_for m x stage k).phases
  cleared_phases x (Copying run) k = one_goes m.ended m.phases x.phase _ refl refl refl refl (λ i h. h) (λ i cell by h. or_last _ _ h) (λ h. h)
  cleared_phases x other k = same_phases m.ended m.phases

  applied_phases : (stage : Stage) (k : ℕ) → PhasesGo m.ended m.phases (applied_by m stage k).phases
  applied_phases (Applying u) k = same_phases m.ended m.phases
  applied_phases other k = same_phases m.ended m.phases

  noting_phases : (x : Txn) (k : ℕ) (ask : Ask) → PhasesGo m.ended m.phases (noting m x k ask).phases
  noting_phases x k (Op change op) = applied_phases x.stage k
  noting_phases x k (Clear cells who) = cleared_phases x x.stage k
  noting_phases x k (Post change cells accused) = one_goes m.ended m.phases x.phase _ refl refl refl refl (λ i h. h) (λ i cell k h. h) (λ h. h)
  noting_phases x k (Settle change cells accused) = one_goes m.ended m.phases x.phase _ refl refl refl refl (λ i h. h) (λ i cell k h. h) (λ h. h)
  noting_phases x k other = same_phases m.ended m.phases

  answered_phases : (k : ℕ) (by : Sender) (ask : Ask) (answer : Answer) → PhasesGo m.ended m.phases (answered m k by ask answer).phases
  answered_phases k by ask answer = by_case (awaits (m.txns by.txn) k) (is_wanted ask answer) where
    wanted : (c : Bool) → PhasesGo m.ended m.phases (if c then noting m (m.txns by.txn) k ask else m).phases
    wanted true = noting_phases (m.txns by.txn) k ask
    wanted false = same_phases m.ended m.phases

    by_case : (b c : Bool) → PhasesGo m.ended m.phases (if b then with_txn (if c then noting m (m.txns by.txn) k ask else m) by.txn (hearing (at_rest (m.txns by.txn) k) k by.connection ask answer) else with_txn m by.txn (landed (m.txns by.txn) k)).phases
    by_case true c = wanted c
    by_case false c = same_phases m.ended m.phases

  pub replied_phases : (k : ℕ) (by : Sender) (ask : Ask) (answer : Answer) → PhasesGo m.ended m.phases (replied m k by ask answer).phases
  replied_phases k by OpenFirst answer = same_phases m.ended m.phases
  replied_phases k by other answer = answered_phases k by other answer

  taken_phases : (k : ℕ) (o : Output) → PhasesGo m.ended m.phases (taken_in m k o).phases
  taken_phases k (Answered by ask answer) = by_case (is_current (m.links k by.graph) by.connection) where
    by_case : (b : Bool) → PhasesGo m.ended m.phases (if b then replied m k by ask answer else m).phases
    by_case true = replied_phases k by ask answer
    by_case false = same_phases m.ended m.phases
  taken_phases k other = same_phases m.ended m.phases

  pub front_phases : (k : ℕ) (os : List Output) → PhasesGo m.ended m.phases (take_in_front m k os).phases
  front_phases k [] = same_phases m.ended m.phases
  front_phases k (o ∷ os) = taken_phases k o

  pub asked_phases : (t k : ℕ) (first : Bool) (ask : Ask) → PhasesGo m.ended m.phases (after_asking m t k first ask).phases
  asked_phases t k first ask = let w = wrote_stays (writes ask) (phase_of m t) in one_goes m.ended m.phases (m.txns t).phase _ w.0 w.1.0 w.1.1.0 w.1.1.1.0 w.1.1.1.1.0 w.1.1.1.1.1.0 w.1.1.1.1.1.1

  -- ---- turns

  pub turn_phases : (size : Size) (t : ℕ) (turn : Turn) → PhasesGo m.ended m.phases (after_turn size m t turn).phases
  turn_phases size t Turn.Reaches = record {
    by = λ p low. ap (λ (x : Phase). x.by) (at_other m.phases (m.ended + 1) _ p (λ e. absurd (omega (arith, e, low))));
    cells = λ p low. ap (λ (x : Phase). x.cells) (at_other m.phases (m.ended + 1) _ p (λ e. absurd (omega (arith, e, low))));
    reached = λ p low. ap (λ (x : Phase). x.reached) (at_other m.phases (m.ended + 1) _ p (λ e. absurd (omega (arith, e, low))));
    rows = λ p low. ap (λ (x : Phase). x.rows) (at_other m.phases (m.ended + 1) _ p (λ e. absurd (omega (arith, e, low))));
    accused = λ p low i h. ap (λ (x : Phase). x.accused i) (at_other m.phases (m.ended + 1) _ p (λ e. absurd (omega (arith, e, low)))) ∙ h;
    cleared = λ p low i cell k h. ap (λ (x : Phase). x.cleared i cell k) (at_other m.phases (m.ended + 1) _ p (λ e. absurd (omega (arith, e, low)))) ∙ h;
    wrote = λ p low h. ap (λ (x : Phase). x.wrote) (at_other m.phases (m.ended + 1) _ p (λ e. absurd (omega (arith, e, low)))) ∙ h;
  }
  turn_phases size t Turn.Marks = drawn (m.txns t).job where
    drawn : (j : Job) → PhasesGo m.ended m.phases (drawing m t j).phases
    drawn (job.Change cells fd op effect) = one_goes m.ended m.phases (m.txns t).phase _ refl refl refl refl (λ i h. h) (λ i cell k h. h) (λ h. h)
    drawn other = same_phases m.ended m.phases
  turn_phases size t Turn.Posts = posted (m.txns t).stage where
    posted : (stage : Stage) → PhasesGo m.ended m.phases (posting size m t stage).phases
    posted (Applying u) = one_goes m.ended m.phases (m.txns t).phase _ refl refl refl refl (λ i h. or_left _ _ h) (λ i cell k h. h) (λ h. h)
    posted other = same_phases m.ended m.phases
  turn_phases size t (Turn.SettlesAs group adopts) = settled (m.txns t).work where
    settled : (work : Work) → PhasesGo m.ended m.phases (settling size m t work group adopts).phases
    settled Own = same_phases m.ended m.phases
    settled (Settles u) =
        let middle = (deciding_now m t (BySettles u group adopts)).phases in
        then_goes m.ended m.phases middle (settling size m t (Settles u) group adopts).phases (one_goes m.ended m.phases (m.txns t).phase _ refl refl refl refl (λ i h. h) (λ i cell k h. h) (λ h. h)) (one_goes m.ended middle (m.txns t).phase _ refl refl refl refl (λ i h. or_left _ _ h) (λ i cell k h. h) (λ h. h))
  turn_phases size t Turn.Bears = born (m.txns t).job where
    born : (j : Job) → PhasesGo m.ended m.phases (bearing m t j).phases
    born (job.Birth cells op) = same_phases m.ended m.phases
    born other = same_phases m.ended m.phases
  turn_phases size t Turn.Clears = cleared (m.txns t).stage where
    cleared : (stage : Stage) → PhasesGo m.ended m.phases (clearing m t stage).phases
    cleared (Copying run) = same_phases m.ended m.phases
    cleared other = same_phases m.ended m.phases
  turn_phases size t other = same_phases m.ended m.phases

  pub unsettling_phases : (t : ℕ) (stage : Stage) → (unsettling m t stage).phases ≡ m.phases
  unsettling_phases t (Marking u) = refl
  unsettling_phases t other = refl

  pub decided_phases : (d : Option (ℕ × Bool)) → (decided m d).phases ≡ m.phases
  decided_phases Option.None = refl
  decided_phases (Option.Some d) = by_case d.1 _ where
    by_case : (a b : Bool) → (deciding m d.0 a b).phases ≡ m.phases
    by_case a false = refl
    by_case true true = refl
    by_case false true = refl
