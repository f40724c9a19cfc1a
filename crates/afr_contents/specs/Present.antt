-- Where copies are: what a lock phase saw stays, and each cell that a change touches has a copy at a quorum. Ours.
use Rattle.std.specs.Prelude.{◌≡◌, ◌≢◌, ◌≤◌, ℕ, true, is_some}
use Rattle.fop_types.specs.declared.cells.Cell.{Cell}
use Rattle.afr_machine.specs.Replicas.{Replicas, Size, count}
use Rattle.afr_machine.specs.Touching.{has_cell}
use Rattle.afr_machine.specs.Changes.Verdict.{Undrawn}
use Rattle.afr_machine.specs.States.{State}
use Rattle.afr_machine.specs.Steps.{IsReached}
use Rattle.afr_soundness.specs.Replaced.{HasCopy}

-- a replica whose copy a lock phase saw has one from then on
abbrev pub SeenHaveCopies : State → Type 0
SeenHaveCopies m = (p k : ℕ) (cell : Cell) → 1 ≤ p → p ≤ m.ended → has_cell (m.phases p).cells cell ≡ true → (m.phases p).reached k ≡ true → ((m.phases p).rows k cell).present ≡ true → HasCopy m k cell

abbrev pub having : State → Cell → Replicas
having m cell k = is_some ((m.bricks k).store cell).copy

-- a quorum has a copy of each cell of a change, from its mark on
abbrev pub ChangesArePresent : Size → State → Type 0
ChangesArePresent size m = (u : ℕ) (cell : Cell) → (m.changes u).verdict ≢ Undrawn → has_cell (m.changes u).cells cell ≡ true → size.quorum ≤ count size.replicas (having m cell)

pub record KeepsPresent (size : Size) (m : State) : Type 0 where
  pub seen : SeenHaveCopies m
  pub changes : ChangesArePresent size m

abbrev pub EveryChangeIsPresent : Type 0
EveryChangeIsPresent = (size : Size) (m : State) → IsReached size m → KeepsPresent size m
