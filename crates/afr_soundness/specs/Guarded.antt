-- Whatever the steps, somebody is free: on each cell that is present on a brick, and on all cells of an unsettled change
-- together. Ours.
use Rattle.std.specs.Prelude.{◌≡◌, ◌<◌, ℕ, true, List, [], ◌∷◌}
use Rattle.fop_types.specs.declared.cells.Cell.{Cell}
use Rattle.afr_machine.specs.Replicas.{Size, IsSize}
use Rattle.afr_machine.specs.Touching.{has_cell}
use Rattle.afr_machine.specs.Changes.{is_unsettled}
use Rattle.afr_machine.specs.States.{State}
use Rattle.afr_machine.specs.Steps.{IsReached}
use Rattle.afr_soundness.specs.Replaced.{HasCopy}
use Rattle.afr_soundness.specs.Clears.{IsFree}

-- one replica is free on each of the cells
pub record OneIsFreeOn (size : Size) (m : State) (cells : List Cell) : Type 0 where
  pub replica : ℕ
  pub low : replica < size.replicas
  pub free : (cell : Cell) → has_cell cells cell ≡ true → IsFree size m cell replica

abbrev pub UnsettledHasFree : Size → State → Type 0
UnsettledHasFree size m = (u : ℕ) → is_unsettled (m.changes u).verdict ≡ true → OneIsFreeOn size m (m.changes u).cells

abbrev pub PresentHasFree : Size → State → Type 0
PresentHasFree size m = (k : ℕ) (cell : Cell) → k < size.replicas → HasCopy m k cell → OneIsFreeOn size m (cell ∷ [])

pub record LeavesOneFree (size : Size) (m : State) : Type 0 where
  pub unsettled : UnsettledHasFree size m
  pub present : PresentHasFree size m

abbrev pub EveryStateLeavesOneFree : Type 0
EveryStateLeavesOneFree = (size : Size) (m : State) → IsSize size → IsReached size m → LeavesOneFree size m
