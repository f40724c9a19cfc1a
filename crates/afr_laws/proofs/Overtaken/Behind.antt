-- Where a transaction behind its lock phase comes from: the phase ended now, or it was behind it, with no grant more.
use Rattle.std.proofs.Common.{◌≡◌, ◌∙◌, ℕ, ◌+◌, Bool, true, false, refl, sym, ap, subst, ◌⊎◌, inl, inr, Option, Some, None}
use Rattle.std.specs.Prelude.{if◌then◌else◌, List, [], ◌∷◌, ◌||◌, ◌==◌, not}
use Rattle.fop_types.specs.declared.cells.Cell.{Cell}
use Rattle.fop_types.specs.declared.jobs.Job.{Job}
use Rattle.fop_types.specs.declared.jobs.Job.TheVariants as job
use Rattle.afr_machine.specs.Replicas.{Size, Replicas, outside, with_at}
use Rattle.afr_machine.specs.Requests.{Sender, Ask, Answer, Output}
use Rattle.afr_machine.specs.Requests.Output.{Answered, Closed, Opened, Connected}
use Rattle.afr_machine.specs.Transactions.{Work, Stage, Grant, Txn, new_txn}
use Rattle.afr_machine.specs.Transactions.Work.{Own, Settles}
use Rattle.afr_machine.specs.Transactions.Stage.{Over, Locking, Locked, Marking, Applying, Posting, Settling, Bearing, Copying, Polling, Unlocking}
use Rattle.afr_machine.specs.States.{State, is_current}
use Rattle.afr_machine.specs.Sending.{asking}
use Rattle.afr_machine.specs.Answering.{passed, missing, awaits, at_rest, forgetting, replied, taken_in, without_first_output}
use Rattle.afr_machine.specs.Turns.{Turn, MayTurn, entering, members, open_grants, after_turn, locking_for, skipping, resting, drawing, posting, settling, bearing, clearing}
use Rattle.afr_machine.specs.Steps.{Step, Allowed, after, take_in_front, unsettling, decided_by}
use Rattle.afr_laws.specs.Flights.{AreOnTheirWay}
use Rattle.afr_laws.specs.Waiting.{EachWaitsFit}
use Rattle.afr_laws.specs.Fresh.{is_behind}
use Rattle.afr_laws.proofs.Bools.{is_or_not}
use Rattle.afr_laws.proofs.Carry.{at_case}
use Rattle.afr_laws.proofs.Heard.{Heard, replied_txns}
use Rattle.afr_laws.proofs.Heard.Heard.{Took, Passed, OpenDone, OpenMissed}
use Rattle.afr_laws.proofs.Stages.{StageGoes, GrantsGo, hearing_grants}
use Rattle.afr_laws.proofs.Stages.GrantsGo.{SameGrants, Granted, Released}
use Rattle.afr_laws.proofs.Goes.{decided_txns}
use Rattle.afr_laws.proofs.OwnChanges.Replies.{SameTask, heard_task}
use Rattle.afr_laws.proofs.Fresh.Phased.{SamePhase, passed_behind, goes_behind}
use Rattle.afr_laws.proofs.Fresh.Turns.{copied_behind, copies_behind}
use Rattle.afr_laws.proofs.Work.Known.{lock_asked}

-- of a transaction after a step: it is not behind a lock phase; the phase ended now; or it was behind the same one, and
-- its grants are some of those that it had
pub data BehindFrom (m : State) (t : ℕ) (y : Txn) : Type 0 where
  NotNow : is_behind y.stage ≡ false → BehindFrom m t y
  Ends : y.phase ≡ m.ended + 1 → BehindFrom m t y
  Same : is_behind (m.txns t).stage ≡ true → SamePhase (m.txns t) y → y.graph ≡ (m.txns t).graph → ((k : ℕ) (grant : Grant) → y.grants k ≡ Some grant → (m.txns t).grants k ≡ Some grant) → BehindFrom m t y

pub same_behind : (m : State) (t : ℕ) (y : Txn) → (is_behind y.stage ≡ true → is_behind (m.txns t).stage ≡ true) → SamePhase (m.txns t) y → y.graph ≡ (m.txns t).graph → ((k : ℕ) (grant : Grant) → y.grants k ≡ Some grant → (m.txns t).grants k ≡ Some grant) → BehindFrom m t y
same_behind m t y behind same graph grants = by_case (is_or_not (is_behind y.stage)) where
  by_case : (is_behind y.stage ≡ true) ⊎ (is_behind y.stage ≡ false) → BehindFrom m t y
  by_case (inl now) = BehindFrom.Same (behind now) same graph grants
  by_case (inr not_now) = BehindFrom.NotNow not_now

as_it_was : (m : State) (t : ℕ) → BehindFrom m t (m.txns t)
as_it_was m t = same_behind m t (m.txns t) (λ h. h) (record { job = refl; work = refl; phase = refl }) refl (λ k grant is. is)

module _ (size : Size) (m : State) (t : ℕ) where
  abbrev x : Txn
  x = m.txns t

  only : (y : Txn) → BehindFrom m t y → (i : ℕ) → BehindFrom m i (with_at m.txns t y i)
  only y b i = at_case (λ j z. BehindFrom m j z) m.txns t y b i (λ ne. as_it_was m i)

  -- the same job, work, lock phase, graph and grants, from a stage behind the lock phase
  staged : (y : Txn) → is_behind x.stage ≡ true → y.job ≡ x.job → y.work ≡ x.work → y.phase ≡ x.phase → y.graph ≡ x.graph → y.grants ≡ x.grants → BehindFrom m t y
  staged y behind own work phase graph grants = BehindFrom.Same behind (record { job = own; work = work; phase = phase }) graph (λ k grant is. sym (ap (λ (f : ℕ → Option Grant). f k) grants) ∙ is)

  skips_from : (stage : Stage) → BehindFrom m t (skipping x stage)
  skips_from (Locking cells shared next) = BehindFrom.NotNow refl
  skips_from other = as_it_was m t

  draws_from : (own : Job) → is_behind x.stage ≡ true → (i : ℕ) → BehindFrom m i ((drawing m t own).txns i)
  draws_from (job.Change cells fd op effect) behind = only (record (entering (m.txns t) (Marking (m.drawn + 1)) (members m t)) { own = m.drawn + 1 }) (staged (record (entering (m.txns t) (Marking (m.drawn + 1)) (members m t)) { own = m.drawn + 1 }) behind refl refl refl refl refl)
  draws_from other behind = as_it_was m

  posts_from : (stage : Stage) → x.stage ≡ stage → (i : ℕ) → BehindFrom m i ((posting size m t stage).txns i)
  posts_from (Applying u) is = only (entering x (Posting u) (m.changes u).done) (staged (entering x (Posting u) (m.changes u).done) (ap is_behind is) refl refl refl refl refl)
  posts_from other is = as_it_was m

  settles_from : (work : Work) (group : Replicas) (adopts : Bool) → x.stage ≡ Locked → (i : ℕ) → BehindFrom m i ((settling size m t work group adopts).txns i)
  settles_from Own group adopts is = as_it_was m
  settles_from (Settles u) group adopts is = only (entering x (Settling u group adopts) (members m t)) (staged (entering x (Settling u group adopts) (members m t)) (ap is_behind is) refl refl refl refl refl)

  bears_from : (own : Job) → x.stage ≡ Locked → (i : ℕ) → BehindFrom m i ((bearing m t own).txns i)
  bears_from (job.Birth cells op) is = only (entering x Bearing (members m t)) (staged (entering x Bearing (members m t)) (ap is_behind is) refl refl refl refl refl)
  bears_from other is = as_it_was m

  clears_from : (stage : Stage) → x.stage ≡ stage → (i : ℕ) → BehindFrom m i ((clearing m t stage).txns i)
  clears_from (Copying run) is = only (entering x (Copying (record run { clears = true })) (members m t)) (staged (entering x (Copying (record run { clears = true })) (members m t)) (ap is_behind is) refl refl refl refl refl)
  clears_from other is = as_it_was m

  locks_from : (work : Work) → BehindFrom m t (locking_for m x work)
  locks_from Own = BehindFrom.NotNow refl
  locks_from (Settles u) = BehindFrom.NotNow refl

  turned_from : (turn : Turn) → MayTurn size m t turn → (i : ℕ) → BehindFrom m i ((after_turn size m t turn).txns i)
  turned_from (Turn.Begins graph own) h = only (new_txn graph own) (BehindFrom.NotNow refl)
  turned_from (Turn.LocksFor work) h = only (locking_for m x work) (locks_from work)
  turned_from Turn.Skips h = only (skipping x x.stage) (skips_from x.stage)
  turned_from Turn.Reaches h = only (record x { stage = Locked; phase = m.ended + 1; out = λ k. x.out k || not (open_grants m t k) }) (BehindFrom.Ends refl)
  turned_from Turn.Marks h = draws_from x.job (copied_behind x.stage h.copied)
  turned_from Turn.Posts h = posts_from x.stage refl
  turned_from (Turn.SettlesAs group adopts) h = settles_from x.work group adopts h.turn
  turned_from Turn.Bears h = bears_from x.job h.turn
  turned_from Turn.Confirms h = as_it_was m
  turned_from (Turn.Copies run) h = only (entering x (Copying run) (λ k. false)) (staged (entering x (Copying run) (λ k. false)) (copies_behind m t x.work run.group h.allowed) refl refl refl refl refl)
  turned_from Turn.Clears h = clears_from x.stage refl
  turned_from Turn.Polls h = only (entering x Polling (outside size x.out)) (BehindFrom.NotNow refl)
  turned_from Turn.Unlocks h = only (entering x Unlocking (open_grants m t)) (BehindFrom.NotNow refl)
  turned_from Turn.Rests h = only (resting m t) (BehindFrom.NotNow refl)
  turned_from Turn.Ends h = only (record x { stage = Over }) (BehindFrom.NotNow refl)

-- ---- what is handed in

passed_locking : (stage : Stage) (cells : List Cell) (shared : Bool) (k : ℕ) → stage ≡ Locking cells shared k → is_behind (passed stage) ≡ false
passed_locking stage cells shared k is = ap (λ s. is_behind (passed s)) is

module _ (size : Size) (m : State) (way : AreOnTheirWay m) (fit : EachWaitsFit size m) (k : ℕ) where
  forgotten_from : (ends : ℕ → Bool) (i : ℕ) → BehindFrom m i (forgetting ends k (m.txns i))
  forgotten_from ends i = by_case (ends (m.txns i).graph) where
    by_case : (b : Bool) → BehindFrom m i (if b then record (m.txns i) { flying = with_at (m.txns i).flying k [] } else m.txns i)
    by_case true = same_behind m i (record (m.txns i) { flying = with_at (m.txns i).flying k [] }) (λ h. h) (record { job = refl; work = refl; phase = refl }) refl (λ j grant is. is)
    by_case false = as_it_was m i

  module _ (by : Sender) (ask : Ask) (answer : Answer) (rest : List Output) (front : (m.bricks k).outputs ≡ Answered by ask answer ∷ rest) (connected : is_current (m.links k by.graph) by.connection ≡ true) where
    abbrev z : Txn
    z = m.txns by.txn

    goes_from : awaits z k ≡ true → (y : Txn) → y.graph ≡ z.graph → SamePhase z y → StageGoes z.stage y.stage → GrantsGo (at_rest z k) y k by.connection ask answer → BehindFrom m by.txn y
    goes_from waits y graph same goes (SameGrants is) = same_behind m by.txn y (goes_behind z.stage y.stage goes) same graph (λ j grant e. sym (ap (λ (f : ℕ → Option Grant). f j) is) ∙ e)
    goes_from waits y graph same goes (Granted shared cells rows is_lock is_rows grants stage) =
        BehindFrom.NotNow (ap is_behind stage ∙ passed_locking z.stage cells shared k (lock_asked size m way fit k by ask answer rest front connected waits shared cells is_lock))
    goes_from waits y graph same goes (Released is_unlock grants) =
        same_behind m by.txn y (goes_behind z.stage y.stage goes) same graph
        (λ j grant e. at_case (λ n o. o ≡ Some grant → z.grants n ≡ Some grant) z.grants k None (λ no. absurd (let never : None ≡ Some grant = no in cc)) j (λ ne is. is) (sym (ap (λ (f : ℕ → Option Grant). f j) grants) ∙ e))

    heard_from : (y : Txn) → Heard z y k by.connection ask answer → BehindFrom m by.txn y
    heard_from y h = by_heard h where
      task : SameTask (m.txns by.txn) y
      task = (heard_task (m.txns by.txn) y k by.connection ask answer h).0

      same : SamePhase (m.txns by.txn) y
      same = record { job = task.own.job; work = task.work; phase = task.phase }

      goes : StageGoes (m.txns by.txn).stage y.stage
      goes = (heard_task (m.txns by.txn) y k by.connection ask answer h).1

      alike : y.graph ≡ (m.txns by.txn).graph → y.grants ≡ (m.txns by.txn).grants → BehindFrom m by.txn y
      alike graph grants = same_behind m by.txn y (goes_behind (m.txns by.txn).stage y.stage goes) same graph (λ j grant e. sym (ap (λ (f : ℕ → Option Grant). f j) grants) ∙ e)

      by_heard : Heard (m.txns by.txn) y k by.connection ask answer → BehindFrom m by.txn y
      by_heard (Took plain waits s is) = goes_from waits y s.graph same goes (subst (λ (z : Txn). GrantsGo (at_rest (m.txns by.txn) k) z k by.connection ask answer) (sym is) (hearing_grants (at_rest (m.txns by.txn) k) k by.connection ask answer))
      by_heard (Passed plain passes is) = alike (ap (λ (z : Txn). z.graph) is) (ap (λ (z : Txn). z.grants) is)
      by_heard (OpenDone opens is) = alike (ap (λ (z : Txn). z.graph) is) (ap (λ (z : Txn). z.grants) is)
      by_heard (OpenMissed opens is) = alike (ap (λ (z : Txn). z.graph) is) (ap (λ (z : Txn). z.grants) is)

    replied_from : (i : ℕ) → BehindFrom m i ((replied (without_first_output m k) k by ask answer).txns i)
    replied_from i =
        let p = replied_txns (without_first_output m k) k by ask answer in
        subst (λ (f : ℕ → Txn). BehindFrom m i (f i)) (sym p.is) (at_case (λ n z. BehindFrom m n z) m.txns by.txn p.after (heard_from p.after p.heard) i (λ ne. as_it_was m i))

  taken_from : (o : Output) (rest : List Output) → (m.bricks k).outputs ≡ o ∷ rest → (i : ℕ) → BehindFrom m i ((taken_in (without_first_output m k) k o).txns i)
  taken_from (Answered by ask answer) rest front i = by_case (is_current (m.links k by.graph) by.connection) refl where
    by_case : (b : Bool) → is_current (m.links k by.graph) by.connection ≡ b → BehindFrom m i ((if b then replied (without_first_output m k) k by ask answer else without_first_output m k).txns i)
    by_case true connected = replied_from by ask answer rest front connected i
    by_case false late = as_it_was m i
  taken_from Closed rest front i = forgotten_from (λ g. true) i
  taken_from Opened rest front i = as_it_was m i
  taken_from (Connected graph) rest front i = as_it_was m i

  front_from : (os : List Output) → (m.bricks k).outputs ≡ os → (i : ℕ) → BehindFrom m i ((take_in_front (without_first_output m k) k os).txns i)
  front_from [] is i = as_it_was m i
  front_from (o ∷ os) is i = taken_from o os is i

-- ---- each step

unsettled_from : (size : Size) (m : State) (t : ℕ) (stage : Stage) → (m.txns t).stage ≡ stage → (i : ℕ) → BehindFrom m i ((unsettling m t stage).txns i)
unsettled_from size m t (Marking u) is i = only size m t (entering (m.txns t) (Applying u) (m.txns t).confirmed) (staged size m t (entering (m.txns t) (Applying u) (m.txns t).confirmed) (ap is_behind is) refl refl refl refl refl) i
unsettled_from size m t other is i = as_it_was m i

pub behind_from : (size : Size) (m : State) → AreOnTheirWay m → EachWaitsFit size m → (step : Step) → Allowed size m step → (i : ℕ) → BehindFrom m i ((after size m step).txns i)
behind_from size m way fit (Step.Turns t turn) h = turned_from size m t turn h
behind_from size m way fit (Step.Asks t k first asked) h =
    only size m t (asking (m.txns t) k (m.links k (m.txns t).graph).last first asked) (same_behind m t (asking (m.txns t) k (m.links k (m.txns t).graph).last first asked) (λ e. e) (record { job = refl; work = refl; phase = refl }) refl (λ j grant is. is))
behind_from size m way fit (Step.HandsIn k) h = front_from size m way fit k (m.bricks k).outputs refl
behind_from size m way fit (Step.Bails t k) h =
    only size m t (missing (record (m.txns t) { waits = with_at (m.txns t).waits k false }) k)
    (same_behind m t (missing (record (m.txns t) { waits = with_at (m.txns t).waits k false }) k) (λ e. sym (passed_behind (m.txns t).stage) ∙ e) (record { job = refl; work = refl; phase = refl }) refl (λ j grant is. is))
behind_from size m way fit (Step.Misses t k) h =
    only size m t (record (m.txns t) { left = with_at (m.txns t).left k false; out = with_at (m.txns t).out k true })
    (same_behind m t (record (m.txns t) { left = with_at (m.txns t).left k false; out = with_at (m.txns t).out k true }) (λ e. e) (record { job = refl; work = refl; phase = refl }) refl (λ j grant is. is))
behind_from size m way fit (Step.Cuts k h1) h = forgotten_from size m way fit k (λ other. other == h1)
behind_from size m way fit (Step.Unsettles t) h = unsettled_from size m t (m.txns t).stage refl
behind_from size m way fit (Step.Decides t) h = λ i. subst (λ (f : ℕ → Txn). BehindFrom m i (f i)) (sym (decided_txns m (decided_by (m.txns t).stage))) (as_it_was m i)
behind_from size m way fit other h = as_it_was m
