-- The lock phase of a transaction that applies its change wrote, over every list of steps.
use Rattle.std.proofs.Common.{◌≡◌, ◌∙◌, ℕ, ◌+◌, ◌≤◌, zero, suc, Bool, true, false, refl, sym, ap, subst, arith}
use Rattle.std.specs.Prelude.{if◌then◌else◌, List, [], ◌∷◌, ◌||◌, ◌==◌, not}
use Rattle.fop_types.specs.declared.jobs.Job.{Job}
use Rattle.fop_types.specs.declared.jobs.Job.TheVariants as job
use Rattle.afr_machine.specs.Replicas.{Size, IsSize, Replicas, one_if, count, outside, with_at}
use Rattle.afr_machine.specs.Requests.{Sender, Ask, Answer, Output}
use Rattle.afr_machine.specs.Requests.Output.{Answered, Closed, Opened, Connected}
use Rattle.afr_machine.specs.Transactions.{Work, Stage, Txn, new_txn}
use Rattle.afr_machine.specs.Transactions.Work.{Own, Settles}
use Rattle.afr_machine.specs.Transactions.Stage.{Over, Locking, Locked, Marking, Applying, Posting, Settling, Bearing, Copying, Polling, Unlocking}
use Rattle.afr_machine.specs.States.{State, is_current}
use Rattle.afr_machine.specs.Sending.{asking}
use Rattle.afr_machine.specs.Answering.{passed, missing, forgetting, replied, taken_in, without_first_output}
use Rattle.afr_machine.specs.Turns.{Turn, entering, members, open_grants, after_turn, locking_for, skipping, resting, drawing, posting, settling, bearing, clearing}
use Rattle.afr_machine.specs.Steps.{Step, Allowed, MayUnsettle, after, IsReached, take_in_front, unsettling, decided_by}
use Rattle.afr_laws.specs.Waiting.{IsCopying}
use Rattle.afr_laws.specs.Fresh.{HasWritten, EachKnowsPhase}
use Rattle.afr_laws.specs.Seen.{is_applying, AppliesWritten}
use Rattle.afr_laws.proofs.Carry.{at_case}
use Rattle.afr_laws.proofs.Bools.{apart_bools}
use Rattle.afr_laws.proofs.Heard.{replied_txns}
use Rattle.afr_laws.proofs.Stages.{StageGoes}
use Rattle.afr_laws.proofs.Stages.StageGoes.{StaysIn, PassesOn, CopiesOn}
use Rattle.afr_laws.proofs.Goes.{decided_txns}
use Rattle.afr_laws.proofs.OwnChanges.Replies.{heard_task}
use Rattle.afr_laws.proofs.Fresh.Known.{phases_are_known}
use Rattle.afr_laws.proofs.Fresh.Steps.{step_phases}

-- what is to be known of one transaction
abbrev IsWrittenBy : State → Txn → Type 0
IsWrittenBy m y = is_applying y.stage ≡ true → (y.phase ≤ m.ended) × ((m.phases y.phase).wrote ≡ true)

abbrev EachIsWritten : State → Type 0
EachIsWritten m = (t : ℕ) → IsWrittenBy m (m.txns t)

-- ---- stages

passed_applies : (stage : Stage) → is_applying (passed stage) ≡ is_applying stage
passed_applies (Locking cells shared next) = refl
passed_applies other = refl

copying_applies : (stage : Stage) → IsCopying stage → is_applying stage ≡ false
copying_applies (Copying run) h = refl
copying_applies other h = absurd h

goes_applies : (old new : Stage) → StageGoes old new → is_applying new ≡ true → is_applying old ≡ true
goes_applies old new (StaysIn is) h = sym (ap is_applying is) ∙ h
goes_applies old new (PassesOn is) h = sym (ap is_applying is ∙ passed_applies old) ∙ h
goes_applies old new (CopiesOn c d) h = apart_bools h (copying_applies new d)

-- a quorum that confirmed has a member
some_member : (n : ℕ) (set : Replicas) → 1 ≤ count n set → (k : ℕ) × (set k ≡ true)
some_member zero set h = absurd (omega (arith, h))
some_member (suc k) set h = by_case (some_member k set) (set k) refl where
  by_case : (1 ≤ count k set → (j : ℕ) × (set j ≡ true)) → (b : Bool) → set k ≡ b → (j : ℕ) × (set j ≡ true)
  by_case more true is = (k, is)
  by_case more false is = more (omega (arith, h, ap one_if is))

-- ---- one transaction

module _ (m : State) (a : EachIsWritten m) where
  goes : (t : ℕ) (y : Txn) → StageGoes (m.txns t).stage y.stage → y.phase ≡ (m.txns t).phase → IsWrittenBy m y
  goes t y stage phase h = subst (λ p. (p ≤ m.ended) × ((m.phases p).wrote ≡ true)) (sym phase) (a t (goes_applies (m.txns t).stage y.stage stage h))

  other : (y : Txn) → is_applying y.stage ≡ false → IsWrittenBy m y
  other y none h = apart_bools h none

  only : (t : ℕ) (y : Txn) → IsWrittenBy m y → (i : ℕ) → IsWrittenBy m (with_at m.txns t y i)
  only t y w i = at_case (λ j z. IsWrittenBy m z) m.txns t y w i (λ ne. a i)

  -- ---- turns

  locks_written : (t : ℕ) (work : Work) → IsWrittenBy m (locking_for m (m.txns t) work)
  locks_written t Own = other (locking_for m (m.txns t) Own) refl
  locks_written t (Settles u) = other (locking_for m (m.txns t) (Settles u)) refl

  skips_written : (t : ℕ) (stage : Stage) → IsWrittenBy m (skipping (m.txns t) stage)
  skips_written t (Locking cells shared next) = other (skipping (m.txns t) (Locking cells shared next)) refl
  skips_written t stage = a t

  draws_written : (t : ℕ) (own : Job) (i : ℕ) → IsWrittenBy m ((drawing m t own).txns i)
  draws_written t (job.Change cells fd op effect) = only t (record (entering (m.txns t) (Marking (m.drawn + 1)) (members m t)) { own = m.drawn + 1 }) (other (record (entering (m.txns t) (Marking (m.drawn + 1)) (members m t)) { own = m.drawn + 1 }) refl)
  draws_written t own = a

  posts_written : (size : Size) (t : ℕ) (stage : Stage) (i : ℕ) → IsWrittenBy m ((posting size m t stage).txns i)
  posts_written size t (Applying u) = only t (entering (m.txns t) (Posting u) (m.changes u).done) (other (entering (m.txns t) (Posting u) (m.changes u).done) refl)
  posts_written size t stage = a

  settles_written : (size : Size) (t : ℕ) (work : Work) (group : Replicas) (adopts : Bool) (i : ℕ) → IsWrittenBy m ((settling size m t work group adopts).txns i)
  settles_written size t Own group adopts = a
  settles_written size t (Settles u) group adopts = only t (entering (m.txns t) (Settling u group adopts) (members m t)) (other (entering (m.txns t) (Settling u group adopts) (members m t)) refl)

  bears_written : (t : ℕ) (own : Job) (i : ℕ) → IsWrittenBy m ((bearing m t own).txns i)
  bears_written t (job.Birth cells op) = only t (entering (m.txns t) Bearing (members m t)) (other (entering (m.txns t) Bearing (members m t)) refl)
  bears_written t own = a

  clears_written : (t : ℕ) (stage : Stage) (i : ℕ) → IsWrittenBy m ((clearing m t stage).txns i)
  clears_written t (Copying run) = only t (entering (m.txns t) (Copying (record run { clears = true })) (members m t)) (other (entering (m.txns t) (Copying (record run { clears = true })) (members m t)) refl)
  clears_written t stage = a

  turned_written : (size : Size) (t : ℕ) (turn : Turn) (i : ℕ) → IsWrittenBy m ((after_turn size m t turn).txns i)
  turned_written size t (Turn.Begins graph own) = only t (new_txn graph own) (other (new_txn graph own) refl)
  turned_written size t (Turn.LocksFor work) = only t (locking_for m (m.txns t) work) (locks_written t work)
  turned_written size t Turn.Skips = only t (skipping (m.txns t) (m.txns t).stage) (skips_written t (m.txns t).stage)
  turned_written size t Turn.Reaches = only t (record (m.txns t) { stage = Locked; phase = m.ended + 1; out = λ k. (m.txns t).out k || not (open_grants m t k) }) (other (record (m.txns t) { stage = Locked; phase = m.ended + 1; out = λ k. (m.txns t).out k || not (open_grants m t k) }) refl)
  turned_written size t Turn.Marks = draws_written t (m.txns t).job
  turned_written size t Turn.Posts = posts_written size t (m.txns t).stage
  turned_written size t (Turn.SettlesAs group adopts) = settles_written size t (m.txns t).work group adopts
  turned_written size t Turn.Bears = bears_written t (m.txns t).job
  turned_written size t Turn.Confirms = a
  turned_written size t (Turn.Copies run) = only t (entering (m.txns t) (Copying run) (λ k. false)) (other (entering (m.txns t) (Copying run) (λ k. false)) refl)
  turned_written size t Turn.Clears = clears_written t (m.txns t).stage
  turned_written size t Turn.Polls = only t (entering (m.txns t) Polling (outside size (m.txns t).out)) (other (entering (m.txns t) Polling (outside size (m.txns t).out)) refl)
  turned_written size t Turn.Unlocks = only t (entering (m.txns t) Unlocking (open_grants m t)) (other (entering (m.txns t) Unlocking (open_grants m t)) refl)
  turned_written size t Turn.Rests = only t (resting m t) (other (resting m t) refl)
  turned_written size t Turn.Ends = only t (record (m.txns t) { stage = Over }) (other (record (m.txns t) { stage = Over }) refl)

  -- ---- what is handed in

  forgotten_written : (ends : ℕ → Bool) (k i : ℕ) → IsWrittenBy m (forgetting ends k (m.txns i))
  forgotten_written ends k i = by_case (ends (m.txns i).graph) where
    by_case : (b : Bool) → IsWrittenBy m (if b then record (m.txns i) { flying = with_at (m.txns i).flying k [] } else m.txns i)
    by_case true h = a i h
    by_case false h = a i h

  replied_written : (k : ℕ) (by : Sender) (ask : Ask) (answer : Answer) (i : ℕ) → IsWrittenBy m ((replied (without_first_output m k) k by ask answer).txns i)
  replied_written k by ask answer i =
      let p = replied_txns (without_first_output m k) k by ask answer in
      let task = heard_task (m.txns by.txn) p.after k by.connection ask answer p.heard in
      subst (λ (f : ℕ → Txn). IsWrittenBy m (f i)) (sym p.is) (only by.txn p.after (goes by.txn p.after task.1 task.0.phase) i)

  taken_written : (k : ℕ) (o : Output) (i : ℕ) → IsWrittenBy m ((taken_in (without_first_output m k) k o).txns i)
  taken_written k (Answered by ask answer) i = by_case (is_current (m.links k by.graph) by.connection) where
    by_case : (b : Bool) → IsWrittenBy m ((if b then replied (without_first_output m k) k by ask answer else without_first_output m k).txns i)
    by_case true = replied_written k by ask answer i
    by_case false = a i
  taken_written k Closed i = forgotten_written (λ g. true) k i
  taken_written k Opened i = a i
  taken_written k (Connected graph) i = a i

  front_written : (k : ℕ) (os : List Output) (i : ℕ) → IsWrittenBy m ((take_in_front (without_first_output m k) k os).txns i)
  front_written k [] i = a i
  front_written k (o ∷ os) i = taken_written k o i

-- ---- each step

-- who confirmed the mark was sent it
confirmed_wrote : (size : Size) (m : State) → IsSize size → EachKnowsPhase m → (t : ℕ) (h : MayUnsettle size m t) → (m.phases (m.txns t).phase).wrote ≡ true
confirmed_wrote size m is known t h =
    let member = some_member size.replicas (m.txns t).confirmed (omega (arith, h.many, is.odd)) in
    (subst (λ s. HasWritten (m.txns t) s (m.phases (m.txns t).phase).wrote) h.turn (known t).wrote).1 member.0 member.1

unsettled_written : (size : Size) (m : State) → IsSize size → EachKnowsPhase m → EachIsWritten m → (t : ℕ) (stage : Stage) → MayUnsettle size m t → (i : ℕ) → IsWrittenBy m ((unsettling m t stage).txns i)
unsettled_written size m is known a t (Marking u) h = only m a t (entering (m.txns t) (Applying u) (m.txns t).confirmed) (λ applies. ((known t).low, confirmed_wrote size m is known t h))
unsettled_written size m is known a t stage h = a

-- of the transactions after the step, by the phases before it
after_written : (size : Size) (m : State) → IsSize size → EachKnowsPhase m → EachIsWritten m → (step : Step) → Allowed size m step → (i : ℕ) → IsWrittenBy m ((after size m step).txns i)
after_written size m is known a (Step.Turns t turn) h = turned_written m a size t turn
after_written size m is known a (Step.Asks t k first asked) h = only m a t (asking (m.txns t) k (m.links k (m.txns t).graph).last first asked) (λ e. a t e)
after_written size m is known a (Step.HandsIn k) h = front_written m a k (m.bricks k).outputs
after_written size m is known a (Step.Bails t k) h = only m a t (missing (record (m.txns t) { waits = with_at (m.txns t).waits k false }) k) (goes m a t (missing (record (m.txns t) { waits = with_at (m.txns t).waits k false }) k) (StageGoes.PassesOn refl) refl)
after_written size m is known a (Step.Misses t k) h = only m a t (record (m.txns t) { left = with_at (m.txns t).left k false; out = with_at (m.txns t).out k true }) (λ e. a t e)
after_written size m is known a (Step.Cuts k g) h = forgotten_written m a (λ other. other == g) k
after_written size m is known a (Step.Unsettles t) h = unsettled_written size m is known a t (m.txns t).stage h
after_written size m is known a (Step.Decides t) h = λ i. subst (λ (f : ℕ → Txn). IsWrittenBy m (f i)) (sym (decided_txns m (decided_by (m.txns t).stage))) (a i)
after_written size m is known a step h = a

-- a phase that wrote stays written
pub applies_written : (size : Size) (m : State) → IsSize size → IsReached size m → AppliesWritten m
applies_written size m is IsReached.Start = λ t h. absurd cc
applies_written size m is (IsReached.Further old step reached allowed) = λ t h.
    let known = phases_are_known size old reached in
    let w = after_written size old is known (λ i e. ((known i).low, applies_written size old is reached i e)) step allowed t h in
    (step_phases size old step).wrote ((after size old step).txns t).phase w.0 w.1
