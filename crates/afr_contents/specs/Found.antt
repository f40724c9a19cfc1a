-- What is found at replicas: whoever is free is good; so a read, and a change before it becomes unsettled, finds exactly the adopted
-- changes, and a copy what is good. Ours.
use Rattle.std.specs.Prelude.{◌≡◌, ◌<◌, ◌≤◌, ℕ, true, false, Some}
use Rattle.fop_types.specs.declared.cells.Cell.{Cell}
use Rattle.afr_machine.specs.Replicas.{Size, IsSize}
use Rattle.afr_machine.specs.Touching.{has_cell}
use Rattle.afr_machine.specs.Copies.{Copy, has_change}
use Rattle.afr_machine.specs.Changes.{is_unsettled}
use Rattle.afr_machine.specs.Phases.{IsReadyIn}
use Rattle.afr_machine.specs.Transactions.{CopyRun, cells_of_job, settles_first, is_over}
use Rattle.afr_machine.specs.Transactions.Work.{Own}
use Rattle.afr_machine.specs.Transactions.Stage.{Applying, Copying}
use Rattle.afr_machine.specs.States.{State, phase_of}
use Rattle.afr_machine.specs.Steps.{IsReached}
use Rattle.afr_laws.specs.OwnChanges.{was_unsettled}
use Rattle.afr_laws.specs.Numbers.{applied}
use Rattle.afr_laws.specs.Seen.{IsSuperseded}
use Rattle.afr_laws.specs.Sound.{IsSpared}
use Rattle.afr_soundness.specs.Clears.{IsFree}
use Rattle.afr_soundness.specs.Later.{is_before}
use Rattle.afr_contents.specs.Good.{IsGood, IsGoodAt, IsSettledCopy}

abbrev pub FreeIsGood : Type 0
FreeIsGood = (size : Size) (m : State) → IsSize size → IsReached size m → (i : ℕ) (cell : Cell) → i < size.replicas → IsFree size m cell i → IsGoodAt m i cell

-- ---- reads, and changes before they become unsettled

-- a read or change whose settling has ended, and one of its cells
pub record IsSettledFor (m : State) (t : ℕ) (cell : Cell) : Type 0 where
  pub first : settles_first (m.txns t).job ≡ true
  pub settled : (m.txns t).settled ≡ true
  pub running : is_over (m.txns t).stage ≡ false
  pub unmade : 1 ≤ (m.txns t).own → was_unsettled (m.changes (m.txns t).own).verdict ≡ false
  pub covers : has_cell (cells_of_job (m.txns t).job) cell ≡ true

-- such a transaction finds exactly the adopted changes in each good copy, and their content
abbrev pub GoodIsSettled : Type 0
GoodIsSettled = (size : Size) (m : State) → IsReached size m → (t : ℕ) (cell : Cell) → IsSettledFor m t cell → (held : Copy) → IsGood m cell (Some held) → IsSettledCopy m cell (Some held)

-- so behind its own lock phase it finds them in each replica that was sound in it, or received a copy
abbrev pub ReadyHaveAdopted : Type 0
ReadyHaveAdopted =
    (size : Size) (m : State) → IsSize size → IsReached size m → (t k : ℕ) (cell : Cell) → k < size.replicas → IsSettledFor m t cell →
    is_before (m.txns t).stage ≡ true → (m.txns t).work ≡ Own → IsReadyIn size (phase_of m t) cell k → IsSettledCopy m cell ((m.bricks k).store cell).copy

-- and a change that is unsettled finds them in each of these that is spared, and where it is not applied yet
pub record IsApplying (size : Size) (m : State) (t u k : ℕ) (cell : Cell) : Type 0 where
  pub replica : k < size.replicas
  pub stage : (m.txns t).stage ≡ Applying u
  pub unsettled : is_unsettled (m.changes u).verdict ≡ true
  pub touches : has_cell (m.changes u).cells cell ≡ true
  pub ready : IsReadyIn size (phase_of m t) cell k
  pub spared : IsSpared m (m.txns t).phase cell k
  pub unapplied : has_change (applied m k cell) u ≡ false

abbrev pub AppliersHaveAdopted : Type 0
AppliersHaveAdopted =
    (size : Size) (m : State) → IsSize size → IsReached size m → (t u k : ℕ) (cell : Cell) → IsApplying size m t u k cell → IsSettledCopy m cell ((m.bricks k).store cell).copy

-- ---- copies

-- while no later lock phase over the cell wrote, each source of a copy is good
abbrev pub SourcesAreGood : Type 0
SourcesAreGood =
    (size : Size) (m : State) → IsSize size → IsReached size m → (t i : ℕ) (run : CopyRun) (cell : Cell) → (m.txns t).stage ≡ Copying run → has_cell run.cells cell ≡ true →
    (IsSuperseded m.phases m.ended (m.txns t).phase cell → ⊥) → run.sources i ≡ true → IsGoodAt m i cell
