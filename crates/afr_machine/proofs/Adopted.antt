-- What is adopted changes by births and by decisions alone.
use Rattle.std.proofs.Common.{◌≡◌, ℕ, Bool, true, false, refl, ap}
use Rattle.std.specs.Prelude.{List, [], ◌∷◌, Option}
use Rattle.std.specs.Prelude.{Some, None}
use Rattle.fop_types.specs.declared.jobs.Job.{Job}
use Rattle.fop_types.specs.declared.jobs.Job.TheVariants as job
use Rattle.afr_machine.specs.Replicas.{Size, Replicas}
use Rattle.afr_machine.specs.Requests.{Output}
use Rattle.afr_machine.specs.Changes.{Verdict, is_unsettled}
use Rattle.afr_machine.specs.Changes.Verdict.{Undrawn, Drawn, Unsettled, Adopted, Dropped}
use Rattle.afr_machine.specs.Transactions.{Stage, Work}
use Rattle.afr_machine.specs.Transactions.Stage.{Applying, Copying, Marking}
use Rattle.afr_machine.specs.Transactions.Work.{Own, Settles}
use Rattle.afr_machine.specs.States.{State}
use Rattle.afr_machine.specs.Answering.{without_first_output}
use Rattle.afr_machine.specs.Turns.{Turn, after_turn, drawing, posting, settling, bearing, clearing}
use Rattle.afr_machine.specs.Steps.{Step, take_in_front, decided, deciding, decided_by, unsettling}
use Rattle.afr_machine.specs.Moves.{AdoptedMove, AdoptedMoves}
use Rattle.afr_machine.proofs.Tables.{at_same}
use Rattle.afr_machine.proofs.Keeping.{taken_in_beside}

drawing_adopts : (m : State) (t : ℕ) (j : Job) → (drawing m t j).adopted ≡ m.adopted
drawing_adopts m t (job.Change cells fd op effect) = refl
drawing_adopts m t other = refl

posting_adopts : (size : Size) (m : State) (t : ℕ) (stage : Stage) → (posting size m t stage).adopted ≡ m.adopted
posting_adopts size m t (Applying u) = refl
posting_adopts size m t other = refl

settling_adopts : (size : Size) (m : State) (t : ℕ) (work : Work) (group : Replicas) (adopts : Bool) → (settling size m t work group adopts).adopted ≡ m.adopted
settling_adopts size m t Own group adopts = refl
settling_adopts size m t (Settles u) group adopts = refl

clearing_adopts : (m : State) (t : ℕ) (stage : Stage) → (clearing m t stage).adopted ≡ m.adopted
clearing_adopts m t (Copying run) = refl
clearing_adopts m t other = refl

births_adopt : (m : State) (t : ℕ) (j : Job) → (m.txns t).job ≡ j → AdoptedMove m (bearing m t j)
births_adopt m t (job.Birth cells op) is = AdoptedMove.Born t cells op is refl
births_adopt m t other is = AdoptedMove.Same refl

turns_adopt : (size : Size) (m : State) (t : ℕ) (turn : Turn) → AdoptedMove m (after_turn size m t turn)
turns_adopt size m t Turn.Marks = AdoptedMove.Same (drawing_adopts m t (m.txns t).job)
turns_adopt size m t Turn.Posts = AdoptedMove.Same (posting_adopts size m t (m.txns t).stage)
turns_adopt size m t (Turn.SettlesAs group adopts) = AdoptedMove.Same (settling_adopts size m t (m.txns t).work group adopts)
turns_adopt size m t Turn.Bears = births_adopt m t (m.txns t).job refl
turns_adopt size m t Turn.Clears = AdoptedMove.Same (clearing_adopts m t (m.txns t).stage)
turns_adopt size m t other = AdoptedMove.Same refl

unsettling_adopts : (m : State) (t : ℕ) (stage : Stage) → (unsettling m t stage).adopted ≡ m.adopted
unsettling_adopts m t (Marking u) = refl
unsettling_adopts m t other = refl

unsettled_is : (v : Verdict) → is_unsettled v ≡ true → v ≡ Unsettled
unsettled_is Unsettled e = refl
unsettled_is Undrawn e = absurd cc
unsettled_is Drawn e = absurd cc
unsettled_is Adopted e = absurd cc
unsettled_is Dropped e = absurd cc

decisions_adopt : (m : State) (u : ℕ) (adopts first : Bool) → is_unsettled (m.changes u).verdict ≡ first → AdoptedMove m (deciding m u adopts first)
decisions_adopt m u adopts false is = AdoptedMove.Same refl
decisions_adopt m u false true is = AdoptedMove.Same refl
decisions_adopt m u true true is =
    AdoptedMove.Decided u (unsettled_is (m.changes u).verdict is) (ap (λ c. c.verdict) (at_same m.changes u (record (m.changes u) { verdict = Adopted }))) refl

decided_adopts : (m : State) (d : Option (ℕ × Bool)) → AdoptedMove m (decided m d)
decided_adopts m None = AdoptedMove.Same refl
decided_adopts m (Some d) = decisions_adopt m d.0 d.1 (is_unsettled (m.changes d.0).verdict) refl

fronts_adopt : (m : State) (k : ℕ) (os : List Output) → (take_in_front m k os).adopted ≡ m.adopted
fronts_adopt m k [] = refl
fronts_adopt m k (o ∷ os) = (taken_in_beside m k o).adopted

pub adopted_moves : AdoptedMoves
adopted_moves size m (Step.Turns t turn) h = turns_adopt size m t turn
adopted_moves size m (Step.HandsIn k) h = AdoptedMove.Same (fronts_adopt (without_first_output m k) k (m.bricks k).outputs)
adopted_moves size m (Step.Unsettles t) h = AdoptedMove.Same (unsettling_adopts m t (m.txns t).stage)
adopted_moves size m (Step.Decides t) h = decided_adopts m (decided_by (m.txns t).stage)
adopted_moves size m other h = AdoptedMove.Same refl
