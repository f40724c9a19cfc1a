-- What a lock phase saw, until it or a later one writes: the rows that it saw stand. Ours.
use Rattle.std.specs.Prelude.{◌≡◌, ◌<◌, ◌≤◌, ◌&&◌, ℕ, Bool, true, false}
use Rattle.fop_types.specs.declared.cells.Cell.{Cell}
use Rattle.afr_machine.specs.Replicas.{Size, IsSize}
use Rattle.afr_machine.specs.Touching.{has_cell}
use Rattle.afr_machine.specs.Copies.{rows_of}
use Rattle.afr_machine.specs.Requests.{Ask}
use Rattle.afr_machine.specs.Bricks.{Brick}
use Rattle.afr_machine.specs.Phases.{Phase}
use Rattle.afr_machine.specs.Transactions.{Stage}
use Rattle.afr_machine.specs.Transactions.Stage.{Applying}
use Rattle.afr_machine.specs.States.{State, phase_of}
use Rattle.afr_machine.specs.Steps.{IsReached}
use Rattle.afr_laws.specs.Senders.{EachInput}
use Rattle.afr_laws.specs.Covered.{cells_asked, alters}
use Rattle.afr_laws.specs.Standing.{StillShows}

abbrev pub is_applying : Stage → Bool
is_applying (Applying change) = true
is_applying other = false

-- ops are sent behind marks: the lock phase of a transaction that applies its change wrote
abbrev pub AppliesWritten : State → Type 0
AppliesWritten m = (t : ℕ) → is_applying (m.txns t).stage ≡ true → (phase_of m t).wrote ≡ true

-- a lock phase that ended later, over the cell, wrote
pub record IsSuperseded (phases : ℕ → Phase) (ended p : ℕ) (cell : Cell) : Type 0 where
  pub by : ℕ
  pub later : p < by
  pub low : by ≤ ended
  pub wrote : (phases by).wrote ≡ true
  pub covers : has_cell (phases by).cells cell ≡ true

abbrev pub altering : Ask → Cell → Bool
altering ask cell = alters ask && has_cell (cells_asked ask) cell

-- the brick's row of the cell is as the lock phase saw it, and nothing in its line alters the cell
pub record SeenStands (phase : Phase) (cell : Cell) (k : ℕ) (b : Brick) : Type 0 where
  pub row : StillShows (phase.rows k cell) (rows_of b.store cell)
  pub line : EachInput (λ by ask. altering ask cell ≡ false) b.line

-- at every brick that the lock phase reached, also where its grant has ended since
abbrev pub SeenRowsStand : State → Type 0
SeenRowsStand m =
    (p k : ℕ) (cell : Cell) → 1 ≤ p → p ≤ m.ended → has_cell (m.phases p).cells cell ≡ true → (m.phases p).reached k ≡ true →
    (m.phases p).wrote ≡ false → (IsSuperseded m.phases m.ended p cell → ⊥) → SeenStands (m.phases p) cell k (m.bricks k)

pub record KeepsSeen (m : State) : Type 0 where
  pub applied : AppliesWritten m
  pub seen : SeenRowsStand m

abbrev pub EverySeenRowStands : Type 0
EverySeenRowStands = (size : Size) (m : State) → IsSize size → IsReached size m → KeepsSeen m
