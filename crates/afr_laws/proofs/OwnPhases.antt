-- Each step leaves lock phases to their transactions.
use Rattle.std.proofs.Common.{◌≡◌, ◌∙◌, ℕ, ◌+◌, ◌≤◌, true, false, refl, sym, ap, subst, arith}
use Rattle.std.specs.Prelude.{[], ◌||◌, ◌==◌, not}
use Rattle.afr_machine.specs.Replicas.{Size, outside, with_at}
use Rattle.afr_machine.specs.Requests.{Ask, Answer}
use Rattle.afr_machine.specs.Phases.{Phase}
use Rattle.afr_machine.specs.Transactions.{Work, Stage, Txn, new_txn}
use Rattle.afr_machine.specs.Transactions.Work.{Own, Settles}
use Rattle.afr_machine.specs.Transactions.Stage.{Over, Locked, Marking, Applying, Posting, Settling, Bearing, Copying, Polling, Unlocking}
use Rattle.afr_machine.specs.States.{State}
use Rattle.afr_machine.specs.Sending.{asking}
use Rattle.afr_machine.specs.Answering.{missing}
use Rattle.afr_machine.specs.Turns.{Turn, entering, members, open_grants, locking_for, skipping, resting, phase_reached, drawing, posting, settling, bearing, clearing}
use Rattle.afr_machine.specs.Steps.{Step, Allowed, after, IsReached, unsettling, decided_by}
use Rattle.afr_machine.proofs.Tables.{at_same}
use Rattle.afr_laws.specs.Fresh.{EachKnowsPhase}
use Rattle.afr_laws.specs.OwnPhases.{EachPhaseIsOwn, PhasesAreApart, EveryPhaseIsOwn}
use Rattle.afr_laws.proofs.EachTxn.{only, forgotten, front_one}
use Rattle.afr_laws.proofs.Heard.{Heard}
use Rattle.afr_laws.proofs.Goes.{decided_txns}
use Rattle.afr_laws.proofs.OwnChanges.Replies.{heard_task}
use Rattle.afr_laws.proofs.Fresh.Known.{phases_are_known}
use Rattle.afr_laws.proofs.Fresh.Steps.{step_phases}

module _ (size : Size) (m : State) (known : EachKnowsPhase m) (a : EachPhaseIsOwn m) (step : Step) where
  abbrev new : State
  new = after size m step

  abbrev pub holds : ℕ → Txn → Type 0
  holds t y = 1 ≤ y.phase → (new.phases y.phase).by ≡ t

  goes : (t : ℕ) (y : Txn) → y.phase ≡ (m.txns t).phase → holds t y
  goes t y is one =
      ap (λ p. (new.phases p).by) is ∙ (step_phases size m step).by (m.txns t).phase (known t).low ∙ a t (subst (λ n. 1 ≤ n) is one)

  stays : (i : ℕ) → holds i (m.txns i)
  stays i = goes i (m.txns i) refl

  forgets : (i k : ℕ) → holds i (record (m.txns i) { flying = with_at (m.txns i).flying k [] })
  forgets i k = stays i

  hears : (t : ℕ) (y : Txn) (k connection : ℕ) (ask : Ask) (answer : Answer) → Heard (m.txns t) y k connection ask answer → holds t y
  hears t y k connection ask answer h = let task = heard_task (m.txns t) y k connection ask answer h in goes t y task.0.phase

module _ (size : Size) (m : State) (known : EachKnowsPhase m) (a : EachPhaseIsOwn m) where
  one : (step : Step) (t : ℕ) (y : Txn) → (after size m step).txns ≡ with_at m.txns t y → holds size m known a step t y → EachPhaseIsOwn (after size m step)
  one step t y is h i = subst (λ (f : ℕ → Txn). holds size m known a step i (f i)) (sym is) (only m (holds size m known a step) (stays size m known a step) t y h i)

  -- it stays behind its lock phase
  behind : (t : ℕ) (turn : Turn) (y : Txn) → (after size m (Step.Turns t turn)).txns ≡ with_at m.txns t y → y.phase ≡ (m.txns t).phase → EachPhaseIsOwn (after size m (Step.Turns t turn))
  behind t turn y is same = one (Step.Turns t turn) t y is (goes size m known a (Step.Turns t turn) t y same)

  skipped : (t : ℕ) (stage : Stage) → (skipping (m.txns t) stage).phase ≡ (m.txns t).phase
  skipped t (Stage.Locking cells shared next) = refl
  skipped t other = refl

  locks : (t : ℕ) (work : Work) → (locking_for m (m.txns t) work).phase ≡ (m.txns t).phase
  locks t Own = refl
  locks t (Settles u) = refl

  turned : (t : ℕ) (turn : Turn) → Allowed size m (Step.Turns t turn) → EachPhaseIsOwn (after size m (Step.Turns t turn))
  turned t (Turn.Begins graph job) h = one (Step.Turns t (Turn.Begins graph job)) t (new_txn graph job) refl (λ low. absurd (omega (arith, low)))
  turned t (Turn.LocksFor work) h = behind t (Turn.LocksFor work) (locking_for m (m.txns t) work) refl (locks t work)
  turned t Turn.Skips h = behind t Turn.Skips (skipping (m.txns t) (m.txns t).stage) refl (skipped t (m.txns t).stage)
  turned t Turn.Reaches h = one (Step.Turns t Turn.Reaches) t (record (m.txns t) { stage = Locked; phase = m.ended + 1; out = λ k. (m.txns t).out k || not (open_grants m t k) }) refl
      (λ low. ap (λ (p : Phase). p.by) (at_same m.phases (m.ended + 1) (phase_reached m t)))
  turned t Turn.Marks h = behind t Turn.Marks (record (entering (m.txns t) (Marking (m.drawn + 1)) (members m t)) { own = m.drawn + 1 }) (ap (λ j. (drawing m t j).txns) h.job_is) refl
  turned t Turn.Posts h = behind t Turn.Posts (entering (m.txns t) (Posting h.change) (m.changes h.change).done) (ap (λ s. (posting size m t s).txns) h.turn) refl
  turned t (Turn.SettlesAs group adopts) h = behind t (Turn.SettlesAs group adopts) (entering (m.txns t) (Settling h.change group adopts) (members m t)) (ap (λ w. (settling size m t w group adopts).txns) h.work_is) refl
  turned t Turn.Bears h = behind t Turn.Bears (entering (m.txns t) Bearing (members m t)) (ap (λ j. (bearing m t j).txns) h.job_is) refl
  turned t Turn.Confirms h = stays size m known a (Step.Turns t Turn.Confirms)
  turned t (Turn.Copies run) h = behind t (Turn.Copies run) (entering (m.txns t) (Copying run) (λ k. false)) refl refl
  turned t Turn.Clears h = behind t Turn.Clears (entering (m.txns t) (Copying (record h.run { clears = true })) (members m t)) (ap (λ s. (clearing m t s).txns) h.turn) refl
  turned t Turn.Polls h = behind t Turn.Polls (entering (m.txns t) Polling (outside size (m.txns t).out)) refl refl
  turned t Turn.Unlocks h = behind t Turn.Unlocks (entering (m.txns t) Unlocking (open_grants m t)) refl refl
  turned t Turn.Rests h = behind t Turn.Rests (resting m t) refl refl
  turned t Turn.Ends h = behind t Turn.Ends (record (m.txns t) { stage = Over }) refl refl

step_own : (size : Size) (m : State) (step : Step) → Allowed size m step → EachKnowsPhase m → EachPhaseIsOwn m → EachPhaseIsOwn (after size m step)
step_own size m (Step.Turns t turn) h known a = turned size m known a t turn h
step_own size m (Step.Asks t k first asked) h known a =
    one size m known a (Step.Asks t k first asked) t (asking (m.txns t) k (m.links k (m.txns t).graph).last first asked) refl
    (goes size m known a (Step.Asks t k first asked) t (asking (m.txns t) k (m.links k (m.txns t).graph).last first asked) refl)
step_own size m (Step.HandsIn k) h known a = front_one m (holds size m known a (Step.HandsIn k)) (stays size m known a (Step.HandsIn k)) (forgets size m known a (Step.HandsIn k)) (hears size m known a (Step.HandsIn k)) k (m.bricks k).outputs
step_own size m (Step.Bails t k) h known a =
    one size m known a (Step.Bails t k) t (missing (record (m.txns t) { waits = with_at (m.txns t).waits k false }) k) refl
    (goes size m known a (Step.Bails t k) t (missing (record (m.txns t) { waits = with_at (m.txns t).waits k false }) k) refl)
step_own size m (Step.Misses t k) h known a =
    one size m known a (Step.Misses t k) t (record (m.txns t) { left = with_at (m.txns t).left k false; out = with_at (m.txns t).out k true }) refl
    (goes size m known a (Step.Misses t k) t (record (m.txns t) { left = with_at (m.txns t).left k false; out = with_at (m.txns t).out k true }) refl)
step_own size m (Step.Cuts k g) h known a = forgotten m (holds size m known a (Step.Cuts k g)) (stays size m known a (Step.Cuts k g)) (forgets size m known a (Step.Cuts k g)) (λ other. other == g) k
step_own size m (Step.Unsettles t) h known a =
    one size m known a (Step.Unsettles t) t (entering (m.txns t) (Applying h.change) (m.txns t).confirmed) (ap (λ s. (unsettling m t s).txns) h.turn)
    (goes size m known a (Step.Unsettles t) t (entering (m.txns t) (Applying h.change) (m.txns t).confirmed) refl)
step_own size m (Step.Decides t) h known a = λ i. subst (λ (f : ℕ → Txn). holds size m known a (Step.Decides t) i (f i)) (sym (decided_txns m (decided_by (m.txns t).stage))) (stays size m known a (Step.Decides t) i)
step_own size m (Step.Controls k steering) h known a = stays size m known a (Step.Controls k steering)
step_own size m (Step.Serves k) h known a = stays size m known a (Step.Serves k)
step_own size m (Step.Refuses k answer) h known a = stays size m known a (Step.Refuses k answer)
step_own size m (Step.GivesUp k) h known a = stays size m known a (Step.GivesUp k)
step_own size m (Step.Steers k) h known a = stays size m known a (Step.Steers k)
step_own size m (Step.Connects k g) h known a = stays size m known a (Step.Connects k g)
step_own size m (Step.Draws number) h known a = stays size m known a (Step.Draws number)

pub phases_are_own : (size : Size) (m : State) → IsReached size m → EachPhaseIsOwn m
phases_are_own size m IsReached.Start = λ t one. absurd (omega (arith, one))
phases_are_own size m (IsReached.Further old step reached allowed) = step_own size old step allowed (phases_are_known size old reached) (phases_are_own size old reached)

apart : (m : State) → EachPhaseIsOwn m → PhasesAreApart m
apart m own s t one same = sym (own s one) ∙ ap (λ p. (m.phases p).by) same ∙ own t (subst (λ n. 1 ≤ n) same one)

pub keeps_phases : EveryPhaseIsOwn
keeps_phases size m reached = record { own = phases_are_own size m reached; apart = apart m (phases_are_own size m reached) }
