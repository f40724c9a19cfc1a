-- What is adopted is held by somebody who may be read: on each cell that is present somewhere one replica is free and good. Ours.
use Rattle.std.specs.Prelude.{◌≡◌, ◌<◌, ℕ, true, List, [], ◌∷◌}
use Rattle.fop_types.specs.declared.cells.Cell.{Cell}
use Rattle.afr_machine.specs.Replicas.{Size, IsSize}
use Rattle.afr_machine.specs.Touching.{has_cell}
use Rattle.afr_machine.specs.Changes.{is_unsettled}
use Rattle.afr_machine.specs.States.{State}
use Rattle.afr_machine.specs.Steps.{IsReached}
use Rattle.afr_soundness.specs.Clears.{IsFree}
use Rattle.afr_soundness.specs.Replaced.{HasCopy}
use Rattle.afr_contents.specs.Good.{IsGoodAt}

-- one replica is free on each of the cells, and its copy of each is good
pub record HasGood (size : Size) (m : State) (cells : List Cell) : Type 0 where
  pub replica : ℕ
  pub low : replica < size.replicas
  pub free : (cell : Cell) → has_cell cells cell ≡ true → IsFree size m cell replica
  pub good : (cell : Cell) → has_cell cells cell ≡ true → IsGoodAt m replica cell

-- on each cell of which some replica has a copy, and on all cells of an unsettled change together
pub record KeepsGoodCopies (size : Size) (m : State) : Type 0 where
  pub present : (k : ℕ) (cell : Cell) → k < size.replicas → HasCopy m k cell → HasGood size m (cell ∷ [])
  pub unsettled : (u : ℕ) → is_unsettled (m.changes u).verdict ≡ true → HasGood size m (m.changes u).cells

abbrev pub EveryStateKeepsGoodCopies : Type 0
EveryStateKeepsGoodCopies = (size : Size) (m : State) → IsSize size → IsReached size m → KeepsGoodCopies size m
