-- Good copies: a copy of a cell has each adopted change of the cell, no dropped one, at most the unsettled one that touches it,
-- and the content that these leave. Ours.
use Rattle.std.specs.Prelude.{◌≡◌, ◌<◌, ◌⊎◌, ℕ, true, [], ◌∷◌, Option, Some, None}
use Rattle.fop_types.specs.StoreOps.{fits, content_after}
use Rattle.fop_types.specs.declared.cells.Cell.{Cell}
use Rattle.afr_machine.specs.Replicas.{Size, IsSize}
use Rattle.afr_machine.specs.Touching.{has_cell}
use Rattle.afr_machine.specs.Copies.{Copy}
use Rattle.afr_machine.specs.Changes.{is_unsettled}
use Rattle.afr_machine.specs.States.{State}
use Rattle.afr_machine.specs.Steps.{IsReached}
use Rattle.afr_contents.specs.Adopted.{adopted_on, settled}
use Rattle.afr_contents.specs.Staying.{IsAccusedByMany}

-- a copy that has the unsettled change besides
pub record IsAhead (m : State) (cell : Cell) (u : ℕ) (held : Copy) : Type 0 where
  pub unsettled : is_unsettled (m.changes u).verdict ≡ true
  pub touches : has_cell (m.changes u).cells cell ≡ true
  pub fitting : fits (settled m) (m.changes u).op ≡ true
  pub changes : held.changes ≡ u ∷ adopted_on m cell
  pub content : content_after (settled m) (m.changes u).op cell ≡ Some held.content

-- an absent copy is as one without changes
pub data IsGood (m : State) (cell : Cell) (copy : Option Copy) : Type 0 where
  Absent : copy ≡ None → adopted_on m cell ≡ [] → IsGood m cell copy
  Settled : (held : Copy) → copy ≡ Some held → held.changes ≡ adopted_on m cell → settled m cell ≡ Some held.content → IsGood m cell copy
  Ahead : (held : Copy) → (u : ℕ) → copy ≡ Some held → IsAhead m cell u held → IsGood m cell copy

-- ---- the replicas

abbrev pub IsGoodAt : State → ℕ → Cell → Type 0
IsGoodAt m i cell = IsGood m cell ((m.bricks i).store cell).copy

-- its copy is good, or a quorum accuses it and goes on doing so
abbrev pub IsGoodOrAccused : Size → State → ℕ → Cell → Type 0
IsGoodOrAccused size m i cell = IsGoodAt m i cell ⊎ IsAccusedByMany size m cell i

-- each replica's copy of each cell is good, or it is accused
abbrev pub CopiesGoodOrAccused : Size → State → Type 0
CopiesGoodOrAccused size m = (i : ℕ) (cell : Cell) → i < size.replicas → IsGoodOrAccused size m i cell

-- of every state
abbrev pub EveryCopyIsGood : Type 0
EveryCopyIsGood = (size : Size) (m : State) → IsSize size → IsReached size m → CopiesGoodOrAccused size m

-- ---- exactly the adopted changes

-- the copy has exactly the adopted changes, and their content
pub record IsSettledCopy (m : State) (cell : Cell) (copy : Option Copy) : Type 0 where
  pub held : Copy
  pub is : copy ≡ Some held
  pub changes : held.changes ≡ adopted_on m cell
  pub content : settled m cell ≡ Some held.content
