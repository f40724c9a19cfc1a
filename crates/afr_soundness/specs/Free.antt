-- Somebody that a lock phase reached is free on its cells while no later one writes over them. Ours.
use Rattle.std.specs.Prelude.{◌≡◌, ◌≢◌, ◌≤◌, ◌<◌, ℕ, true, false}
use Rattle.fop_types.specs.declared.cells.Cell.{Cell}
use Rattle.afr_machine.specs.Replicas.{Size, IsSize}
use Rattle.afr_machine.specs.Touching.{has_cell}
use Rattle.afr_machine.specs.Phases.{EachHasSound, IsReadyIn}
use Rattle.afr_machine.specs.Phases.Deciding.{NoChange}
use Rattle.afr_machine.specs.States.{State}
use Rattle.afr_machine.specs.Steps.{IsReached}
use Rattle.afr_laws.specs.Seen.{IsSuperseded}
use Rattle.afr_laws.specs.Sound.{IsLastPhase}
use Rattle.afr_soundness.specs.Clears.{IsFree}

-- a lock phase that wrote and decides nothing only copied: it found a sound replica on each of its cells
abbrev pub WrittenHasSound : Size → State → Type 0
WrittenHasSound size m = (p : ℕ) → 1 ≤ p → p ≤ m.ended → (m.phases p).wrote ≡ true → (m.phases p).decides ≡ NoChange → EachHasSound size (m.phases p)

-- one replica that the lock phase reached is free on each of its cells over which no later one wrote
pub record HasFree (size : Size) (m : State) (p : ℕ) : Type 0 where
  pub replica : ℕ
  pub low : replica < size.replicas
  pub reached : (m.phases p).reached replica ≡ true
  pub free : (cell : Cell) → has_cell (m.phases p).cells cell ≡ true → (IsSuperseded m.phases m.ended p cell → ⊥) → IsFree size m cell replica

-- of a lock phase that decides a change, its own or an unsettled one, from the turn by which it does
abbrev pub OneIsFree : Size → State → Type 0
OneIsFree size m = (p : ℕ) → 1 ≤ p → p ≤ m.ended → (m.phases p).decides ≢ NoChange → HasFree size m p

-- one replica that the lock phase reached is free on the cell
pub record HasFreeOn (size : Size) (m : State) (p : ℕ) (cell : Cell) : Type 0 where
  pub replica : ℕ
  pub low : replica < size.replicas
  pub reached : (m.phases p).reached replica ≡ true
  pub free : IsFree size m cell replica

-- of the lock phases over a cell that wrote, the one that ended last: whoever was sound in it, or received a copy, is free
-- unless it accuses that replica; and one that it reached is free
pub record LastPhaseFree (size : Size) (m : State) : Type 0 where
  pub members : (p i : ℕ) (cell : Cell) → IsLastPhase m p cell → IsReadyIn size (m.phases p) cell i → (m.phases p).accused i ≡ false → IsFree size m cell i
  pub one : (p : ℕ) (cell : Cell) → IsLastPhase m p cell → HasFreeOn size m p cell

pub record KeepsFree (size : Size) (m : State) : Type 0 where
  pub sound : WrittenHasSound size m
  pub deciding : OneIsFree size m
  pub last : LastPhaseFree size m

abbrev pub EveryLockPhaseLeavesOneFree : Type 0
EveryLockPhaseLeavesOneFree = (size : Size) (m : State) → IsSize size → IsReached size m → KeepsFree size m
