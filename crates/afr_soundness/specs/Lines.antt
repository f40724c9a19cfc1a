-- What is on its way to the bricks of a lock phase, until a later one writes. Ours.
use Rattle.std.specs.Prelude.{◌≡◌, ◌≤◌, ℕ, true, false}
use Rattle.fop_types.specs.declared.cells.Cell.{Cell}
use Rattle.afr_machine.specs.Replicas.{Size, IsSize}
use Rattle.afr_machine.specs.Touching.{has_cell}
use Rattle.afr_machine.specs.States.{State}
use Rattle.afr_machine.specs.Steps.{IsReached}
use Rattle.afr_laws.specs.Senders.{EachInput}
use Rattle.afr_laws.specs.Rows.{adds}
use Rattle.afr_laws.specs.Seen.{IsSuperseded, altering}
use Rattle.afr_laws.specs.Sound.{IsSpared}

-- at each brick that a lock phase reached, whoever alters a cell of it is the lock phase's own transaction
abbrev pub OwnAlterAlone : State → Type 0
OwnAlterAlone m =
    (p k : ℕ) (cell : Cell) → 1 ≤ p → p ≤ m.ended → has_cell (m.phases p).cells cell ≡ true → (m.phases p).reached k ≡ true → (IsSuperseded m.phases m.ended p cell → ⊥) →
    EachInput (λ by ask. altering ask cell ≡ true → by.txn ≡ (m.phases p).by) (m.bricks k).line

-- and nothing accuses a replica which neither it nor a later one that wrote accuses
abbrev pub SparedAreLeft : State → Type 0
SparedAreLeft m =
    (p k i : ℕ) (cell : Cell) → 1 ≤ p → p ≤ m.ended → has_cell (m.phases p).cells cell ≡ true → (m.phases p).reached k ≡ true → IsSpared m p cell i →
    EachInput (λ by ask. adds ask cell i ≡ false) (m.bricks k).line

pub record KeepsLinesApart (m : State) : Type 0 where
  pub own : OwnAlterAlone m
  pub spared : SparedAreLeft m

abbrev pub EveryLineIsApart : Type 0
EveryLineIsApart = (size : Size) (m : State) → IsSize size → IsReached size m → KeepsLinesApart m
