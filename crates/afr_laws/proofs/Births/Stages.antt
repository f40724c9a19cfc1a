-- The stage of a birth is entered by its turn alone.
use Rattle.std.proofs.Common.{◌≡◌, ◌∙◌, ℕ, Bool, true, false, refl, sym, subst}
use Rattle.std.specs.Prelude.{if◌then◌else◌, List, [], ◌∷◌}
use Rattle.fop_types.specs.declared.jobs.Job.{Job}
use Rattle.fop_types.specs.declared.jobs.Job.TheVariants as job
use Rattle.afr_machine.specs.Replicas.{Size, Replicas, with_at}
use Rattle.afr_machine.specs.Requests.{Sender, Ask, Answer, Output}
use Rattle.afr_machine.specs.Requests.Output.{Answered, Closed, Opened, Connected}
use Rattle.afr_machine.specs.Transactions.{Work, Stage, Txn}
use Rattle.afr_machine.specs.Transactions.Work.{Own, Settles}
use Rattle.afr_machine.specs.Transactions.Stage.{Locking, Applying, Bearing, Copying}
use Rattle.afr_machine.specs.States.{State, is_current}
use Rattle.afr_machine.specs.Answering.{passed, forgetting, replied, taken_in}
use Rattle.afr_machine.specs.Turns.{Turn, after_turn, locking_for, skipping, drawing, posting, settling, clearing}
use Rattle.afr_machine.specs.Steps.{take_in_front}
use Rattle.afr_laws.specs.Waiting.{IsCopying}
use Rattle.afr_laws.proofs.Carry.{at_case}
use Rattle.afr_laws.proofs.Heard.{replied_txns}
use Rattle.afr_laws.proofs.Stages.{StageGoes}
use Rattle.afr_laws.proofs.Stages.StageGoes.{StaysIn, PassesOn, CopiesOn}
use Rattle.afr_laws.proofs.OwnChanges.Replies.{heard_task}

-- who gives birth did so before, for the same job
abbrev pub BearsStill : Txn → Txn → Type 0
BearsStill old new = new.stage ≡ Bearing → (old.stage ≡ Bearing) × (new.job ≡ old.job)

pub bears_still : (x : Txn) → BearsStill x x
bears_still x h = (h, refl)

passed_bears : (stage : Stage) → passed stage ≡ Bearing → stage ≡ Bearing
passed_bears Bearing h = refl
passed_bears (Locking cells shared next) h = absurd cc
passed_bears other h = absurd cc

copying_bears : (stage : Stage) → IsCopying stage → stage ≡ Bearing → ⊥
copying_bears stage c is = subst IsCopying is c

pub goes_bears : (x y : Txn) → y.job ≡ x.job → StageGoes x.stage y.stage → BearsStill x y
goes_bears x y job (StaysIn is) h = (sym is ∙ h, job)
goes_bears x y job (PassesOn is) h = (passed_bears x.stage (sym is ∙ h), job)
goes_bears x y job (CopiesOn c d) h = absurd (copying_bears y.stage d h)

module _ (m : State) where
  pub at_bears : (t : ℕ) (y : Txn) → BearsStill (m.txns t) y → (i : ℕ) → BearsStill (m.txns i) (with_at m.txns t y i)
  at_bears t y b i = at_case (λ n z. BearsStill (m.txns n) z) m.txns t y b i (λ ne. bears_still (m.txns i))

  pub forgotten_bears : (ends : ℕ → Bool) (k i : ℕ) → BearsStill (m.txns i) (forgetting ends k (m.txns i))
  forgotten_bears ends k i = by_case (ends (m.txns i).graph) where
    by_case : (b : Bool) → BearsStill (m.txns i) (if b then record (m.txns i) { flying = with_at (m.txns i).flying k [] } else m.txns i)
    by_case true = λ h. (h, refl)
    by_case false = bears_still (m.txns i)

  replied_bears : (k : ℕ) (by : Sender) (ask : Ask) (answer : Answer) (i : ℕ) → BearsStill (m.txns i) ((replied m k by ask answer).txns i)
  replied_bears k by ask answer i =
      let p = replied_txns m k by ask answer in
      let g = heard_task (m.txns by.txn) p.after k by.connection ask answer p.heard in
      subst (λ (f : ℕ → Txn). BearsStill (m.txns i) (f i)) (sym p.is) (at_bears by.txn p.after (goes_bears (m.txns by.txn) p.after g.0.own.job g.1) i)

  taken_bears : (k : ℕ) (o : Output) (i : ℕ) → BearsStill (m.txns i) ((taken_in m k o).txns i)
  taken_bears k (Answered by ask answer) i = by_case (is_current (m.links k by.graph) by.connection) where
    by_case : (b : Bool) → BearsStill (m.txns i) ((if b then replied m k by ask answer else m).txns i)
    by_case true = replied_bears k by ask answer i
    by_case false = bears_still (m.txns i)
  taken_bears k Closed i = forgotten_bears (λ g. true) k i
  taken_bears k Opened i = bears_still (m.txns i)
  taken_bears k (Connected graph) i = bears_still (m.txns i)

  pub front_bears : (k : ℕ) (os : List Output) (i : ℕ) → BearsStill (m.txns i) ((take_in_front m k os).txns i)
  front_bears k [] i = bears_still (m.txns i)
  front_bears k (o ∷ os) i = taken_bears k o i

-- ---- turns

abbrev pub is_bearing : Turn → Bool
is_bearing Turn.Bears = true
is_bearing other = false

module _ (size : Size) (m : State) (t : ℕ) where
  locks_bears : (work : Work) → BearsStill (m.txns t) (locking_for m (m.txns t) work)
  locks_bears Own h = absurd cc
  locks_bears (Settles u) h = absurd cc

  skips_bears : (stage : Stage) → BearsStill (m.txns t) (skipping (m.txns t) stage)
  skips_bears (Locking cells shared next) h = absurd cc
  skips_bears other h = (h, refl)

  drawn_bears : (own : Job) (i : ℕ) → BearsStill (m.txns i) ((drawing m t own).txns i)
  drawn_bears (job.Change cells fd op effect) i = at_bears m t _ (λ h. absurd cc) i
  drawn_bears other i = bears_still (m.txns i)

  posted_bears : (stage : Stage) (i : ℕ) → BearsStill (m.txns i) ((posting size m t stage).txns i)
  posted_bears (Applying u) i = at_bears m t _ (λ h. absurd cc) i
  posted_bears other i = bears_still (m.txns i)

  settled_bears : (work : Work) (group : Replicas) (adopts : Bool) (i : ℕ) → BearsStill (m.txns i) ((settling size m t work group adopts).txns i)
  settled_bears Own group adopts i = bears_still (m.txns i)
  settled_bears (Settles u) group adopts i = at_bears m t _ (λ h. absurd cc) i

  cleared_bears : (stage : Stage) (i : ℕ) → BearsStill (m.txns i) ((clearing m t stage).txns i)
  cleared_bears (Copying run) i = at_bears m t _ (λ h. absurd cc) i
  cleared_bears other i = bears_still (m.txns i)

  pub turned_bears : (turn : Turn) → is_bearing turn ≡ false → (i : ℕ) → BearsStill (m.txns i) ((after_turn size m t turn).txns i)
  turned_bears Turn.Bears b i = absurd cc
  turned_bears (Turn.LocksFor work) b i = at_bears m t _ (locks_bears work) i
  turned_bears Turn.Skips b i = at_bears m t _ (skips_bears (m.txns t).stage) i
  turned_bears Turn.Marks b i = drawn_bears (m.txns t).job i
  turned_bears Turn.Posts b i = posted_bears (m.txns t).stage i
  turned_bears (Turn.SettlesAs group adopts) b i = settled_bears (m.txns t).work group adopts i
  turned_bears Turn.Confirms b i = bears_still (m.txns i)
  turned_bears Turn.Clears b i = cleared_bears (m.txns t).stage i
  turned_bears (Turn.Begins graph own) b i = at_bears m t _ (λ h. absurd cc) i
  turned_bears Turn.Reaches b i = at_bears m t _ (λ h. absurd cc) i
  turned_bears (Turn.Copies run) b i = at_bears m t _ (λ h. absurd cc) i
  turned_bears Turn.Polls b i = at_bears m t _ (λ h. absurd cc) i
  turned_bears Turn.Unlocks b i = at_bears m t _ (λ h. absurd cc) i
  turned_bears Turn.Rests b i = at_bears m t _ (λ h. absurd cc) i
  turned_bears Turn.Ends b i = at_bears m t _ (λ h. absurd cc) i
