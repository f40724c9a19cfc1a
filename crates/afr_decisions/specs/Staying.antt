-- Who confirmed a post or settle of an unsettled change goes on accusing whomever the lock phase accuses. Ours.
use Rattle.std.specs.Prelude.{◌≡◌, ◌≤◌, ℕ, true, false}
use Rattle.fop_types.specs.declared.cells.Cell.{Cell}
use Rattle.afr_machine.specs.Replicas.{Size}
use Rattle.afr_machine.specs.Touching.{has_cell}
use Rattle.afr_machine.specs.Changes.{is_unsettled}
use Rattle.afr_machine.specs.States.{State}
use Rattle.afr_machine.specs.Steps.{IsReached}
use Rattle.afr_laws.specs.Senders.{EachInput}
use Rattle.afr_laws.specs.Rows.{accuses_at, pardons}
use Rattle.afr_soundness.specs.Later.{IsOf}

-- the brick's row accuses the replica on the cell, and no clear on its way there takes that back
pub record AccusesStaying (m : State) (k : ℕ) (cell : Cell) (i : ℕ) : Type 0 where
  pub accuses : accuses_at (m.bricks k).store cell i ≡ true
  pub line : EachInput (λ by ask. pardons ask cell i ≡ false) (m.bricks k).line

-- so does whoever confirmed a post or settle of an unsettled change, on each of its cells, of each whom the lock phase accuses
abbrev pub ConfirmedAccuse : State → Type 0
ConfirmedAccuse m =
    (p u k i : ℕ) (cell : Cell) → 1 ≤ p → p ≤ m.ended → IsOf u (m.phases p).decides → is_unsettled (m.changes u).verdict ≡ true → (m.phases p).confirmed k ≡ true →
    has_cell (m.changes u).cells cell ≡ true → (m.phases p).accused i ≡ true → AccusesStaying m k cell i

abbrev pub EveryConfirmedAccuses : Type 0
EveryConfirmedAccuses = (size : Size) (m : State) → IsReached size m → ConfirmedAccuse m
