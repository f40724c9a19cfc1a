-- A lock phase that reached every replica splits no cell. Ours.
use Rattle.std.specs.Prelude.{◌≡◌, ◌<◌, ◌≤◌, ℕ, true, false, List}
use Rattle.fop_types.specs.declared.cells.Cell.{Cell}
use Rattle.afr_machine.specs.Replicas.{Size, IsSize}
use Rattle.afr_machine.specs.Touching.{has_cell}
use Rattle.afr_machine.specs.Changes.{is_unsettled}
use Rattle.afr_machine.specs.Phases.{Phase, HasSound, IsSoundOn}
use Rattle.afr_machine.specs.States.{State}
use Rattle.afr_machine.specs.Steps.{IsReached}
use Rattle.afr_laws.specs.Seen.{IsSuperseded}

-- a lock phase that ended and reached every replica, before it or a later one over the cell writes
pub record SawAll (size : Size) (m : State) (p : ℕ) (cell : Cell) : Type 0 where
  pub one : 1 ≤ p
  pub low : p ≤ m.ended
  pub covers : has_cell (m.phases p).cells cell ≡ true
  pub unwritten : (m.phases p).wrote ≡ false
  pub last : IsSuperseded m.phases m.ended p cell → ⊥
  pub all : (k : ℕ) → k < size.replicas → (m.phases p).reached k ≡ true

-- Finds a sound replica on each cell of which its rows show a copy. A cell of which they show none may be there by now: its op was on
-- its way, and needs no lock.
abbrev pub SeenAllHasSound : Type 0
SeenAllHasSound =
    (size : Size) (m : State) → IsSize size → IsReached size m → (p k : ℕ) (cell : Cell) → SawAll size m p cell → k < size.replicas → ((m.phases p).rows k cell).present ≡ true → HasSound size (m.phases p) cell

-- one replica is sound on each of the cells
pub record HasSoundOnAll (size : Size) (phase : Phase) (cells : List Cell) : Type 0 where
  pub member : ℕ
  pub low : member < size.replicas
  pub sound : IsSoundOn size phase cells member

-- so is one on all cells together of an unsettled change, whose settling goes by whoever is
abbrev pub SeenAllHasOne : Type 0
SeenAllHasOne =
    (size : Size) (m : State) → IsSize size → IsReached size m → (p u : ℕ) → is_unsettled (m.changes u).verdict ≡ true → ((cell : Cell) → has_cell (m.changes u).cells cell ≡ true → SawAll size m p cell) →
    HasSoundOnAll size (m.phases p) (m.changes u).cells
