-- All births of a cell give it one content: that of its first birth, which stays. Ours.
use Rattle.std.specs.Prelude.{◌≡◌, ℕ, true, List, [], ◌∷◌, Some}
use Rattle.fop_types.specs.StoreOps.{Contents, births}
use Rattle.fop_types.specs.declared.cells.Cell.{Cell}
use Rattle.fop_types.specs.declared.contents.Content.{Content}
use Rattle.fop_types.specs.declared.jobs.Job.{Job}
use Rattle.fop_types.specs.declared.jobs.Job.TheVariants as job
use Rattle.afr_machine.specs.Replicas.{Size}
use Rattle.afr_machine.specs.Requests.{Ask}
use Rattle.afr_machine.specs.Requests.Ask.{Op}
use Rattle.afr_machine.specs.Transactions.Stage.{Bearing}
use Rattle.afr_machine.specs.States.{State}
use Rattle.afr_machine.specs.Steps.{Step, Allowed, after, IsReached}
use Rattle.afr_laws.specs.Senders.{Each}
use Rattle.afr_laws.specs.OwnChanges.{was_unsettled}

-- each birth gives its cell the content that the cell was born with
abbrev pub AreBorn : Contents → List (Cell × Content) → Type 0
AreBorn born [] = Unit {0}
AreBorn born (b ∷ bs) = (born b.0 ≡ Some b.1) × AreBorn born bs

abbrev pub BearsAsBorn : Contents → Ask → Type 0
BearsAsBorn born (Op u op) = AreBorn born (births op)
BearsAsBorn born other = Unit {0}

abbrev pub IsBornBy : Contents → Job → Type 0
IsBornBy born (job.Birth cells op) = AreBorn born (births op)
IsBornBy born other = Unit {0}

-- so is every op at a brick, of a change that became unsettled once, and of a birth that is under way
pub record OneBirth (m : State) : Type 0 where
  pub bricks : (k : ℕ) → Each (λ by ask. BearsAsBorn m.born ask) (m.bricks k)
  pub changes : (u : ℕ) → was_unsettled (m.changes u).verdict ≡ true → AreBorn m.born (births (m.changes u).op)
  pub under_way : (t : ℕ) → (m.txns t).stage ≡ Bearing → IsBornBy m.born (m.txns t).job

-- the content that a cell was born with stays
abbrev pub BornStays : State → State → Type 0
BornStays m new = (cell : Cell) (content : Content) → m.born cell ≡ Some content → new.born cell ≡ Some content

pub record KeepsBirths (size : Size) (m : State) : Type 0 where
  pub one : OneBirth m
  pub stays : (step : Step) → Allowed size m step → BornStays m (after size m step)

abbrev pub EveryCellIsBornOnce : Type 0
EveryCellIsBornOnce = (size : Size) (m : State) → IsReached size m → KeepsBirths size m
