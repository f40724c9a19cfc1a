-- What a step makes of one brick, and of what is adopted: the laws of the machine that need no run. A step moves at most
-- one brick, in one of six ways; what is adopted changes by decisions and by births alone. Ours.
use Rattle.std.specs.Prelude.{◌≡◌, ℕ, true, false, List, [], ◌∷◌, ◌++◌}
use Rattle.fop_types.specs.StoreOps.{births, after_births, contents_after}
use Rattle.fop_types.specs.declared.jobs.Job.TheVariants as job
use Rattle.fop_types.specs.declared.cells.Cell.{Cell}
use Rattle.fop_types.specs.declared.store_ops.StoreOp.{StoreOp}
use Rattle.afr_machine.specs.Replicas.{Size}
use Rattle.afr_machine.specs.Requests.{Sender, Ask, Control, Input, Answer, Output}
use Rattle.afr_machine.specs.Requests.Input.{Asked, Steered}
use Rattle.afr_machine.specs.Requests.Answer.{Gone}
use Rattle.afr_machine.specs.Bricks.{Brick, serves, served_by, refused, answering, steered}
use Rattle.afr_machine.specs.Changes.Verdict.{Unsettled, Adopted}
use Rattle.afr_machine.specs.States.{State}
use Rattle.afr_machine.specs.Sending.{asks_of, inputs_of, sender_of}
use Rattle.afr_machine.specs.Steps.{Step, IsRefusal, may_be_refused, Allowed, after}

-- the inputs that a step puts in the line of a brick
abbrev pub IsTaken : State → Step → ℕ → List Input → Type 0
IsTaken m (Step.Asks t k first asked) j inputs = (j ≡ k) × (inputs ≡ inputs_of (sender_of m t k) (asks_of first asked))
IsTaken m (Step.Controls k steering) j inputs = (j ≡ k) × (inputs ≡ Steered steering ∷ [])
IsTaken m (Step.Connects k g) j inputs = (j ≡ k) × (inputs ≡ Steered (Control.Connect g) ∷ [])
IsTaken m (Step.Cuts k g) j inputs = (j ≡ k) × (inputs ≡ Steered (Control.Disconnect g) ∷ [])
IsTaken m other j inputs = ⊥

-- the brick stays, takes inputs, hands the first output over, or does one thing with the front of its line
pub data BrickMove (may_take : List Input → Type 0) (old new : Brick) : Type 0 where
  Stays : new ≡ old → BrickMove may_take old new
  Takes : (inputs : List Input) → may_take inputs → new ≡ record old { line = old.line ++ inputs } → BrickMove may_take old new
  Hands : (first : Output) → (rest : List Output) → old.outputs ≡ first ∷ rest → new ≡ record old { outputs = rest } → BrickMove may_take old new
  Serves : (by : Sender) → (asked : Ask) → (rest : List Input) → old.line ≡ Asked by asked ∷ rest → serves old by.graph ≡ true →
      new ≡ served_by old.power by asked (record old { line = rest }) → BrickMove may_take old new
  Refuses : (by : Sender) → (asked : Ask) → (answer : Answer) → (rest : List Input) → old.line ≡ Asked by asked ∷ rest → may_be_refused asked ≡ true → IsRefusal answer →
      new ≡ refused by asked answer (record old { line = rest }) → BrickMove may_take old new
  GivesUp : (by : Sender) → (asked : Ask) → (rest : List Input) → old.line ≡ Asked by asked ∷ rest → serves old by.graph ≡ false →
      new ≡ answering by asked Gone (record old { line = rest }) → BrickMove may_take old new
  Steers : (steering : Control) → (rest : List Input) → old.line ≡ Steered steering ∷ rest → new ≡ steered steering (record old { line = rest }) → BrickMove may_take old new

abbrev pub BricksMove : Type 0
BricksMove = (size : Size) (m : State) (step : Step) → Allowed size m step → (j : ℕ) → BrickMove (IsTaken m step j) (m.bricks j) ((after size m step).bricks j)

-- what is adopted stays, or a birth is sent, or an unsettled change is decided as adopted
pub data AdoptedMove (old new : State) : Type 0 where
  Same : new.adopted ≡ old.adopted → AdoptedMove old new
  Born : (t : ℕ) → (cells : List Cell) → (op : StoreOp) → (old.txns t).job ≡ job.Birth cells op → new.adopted ≡ after_births old.adopted (births op) → AdoptedMove old new
  Decided : (u : ℕ) → (old.changes u).verdict ≡ Unsettled → (new.changes u).verdict ≡ Adopted → new.adopted ≡ contents_after old.adopted (old.changes u).op → AdoptedMove old new

abbrev pub AdoptedMoves : Type 0
AdoptedMoves = (size : Size) (m : State) (step : Step) → Allowed size m step → AdoptedMove m (after size m step)
