-- A lock phase that has ended: which bricks it reached, the rows that they showed, and what came of it. Which members
-- are sound is said by the changelog. Ours.
use Rattle.std.specs.Prelude.{◌≡◌, ℕ, zero, suc, ◌≤◌, ◌⊎◌, Bool, true, false, List, [], ◌∷◌, ◌++◌, Option, Some, None, if◌then◌else◌}
use Rattle.fop_types.specs.declared.cells.Cell.{Cell}
use Rattle.fop_types.specs.declared.contents.Row.{Row}
use Rattle.afr_changelog.specs.Soundness.{IsSound}
use Rattle.afr_machine.specs.Replicas.{Replicas, Size, nobody, count}
use Rattle.afr_machine.specs.Touching.{has_cell}
use Rattle.afr_machine.specs.Copies.{nothing_kept, row_of}

-- What a lock phase decides: nothing so far; its own change, which it marked; or an unsettled one, which it settles as
-- adopted or dropped, by this group.
pub data Deciding : Type 0 where
  NoChange : Deciding
  ByPosts : (change : ℕ) → Deciding
  BySettles : (change : ℕ) → (group : Replicas) → (adopts : Bool) → Deciding

-- `reached` are the bricks whose lock was granted on a connection that was still open at the end; `untouched` says that
-- no unsettled change touched the cells then. `cleared i cell` are the bricks that confirmed a clear which named the
-- sink i, whose replacement on the cell was confirmed. `accused` are the replicas that its posts and settles accuse, and
-- `confirmed` the bricks that confirmed one of these. `wrote` says that a mark, post, settle, replacement or clear was sent.
pub record Phase : Type 0 where
  pub by : ℕ
  pub cells : List Cell
  pub reached : Replicas
  pub rows : ℕ → Cell → Row
  pub untouched : Bool
  pub cleared : ℕ → Cell → Replicas
  pub accused : Replicas
  pub decides : Deciding
  pub confirmed : Replicas
  pub wrote : Bool

abbrev pub no_phase : Phase
no_phase = record {
  by = 0;
  cells = [];
  reached = nobody;
  rows = λ k cell. row_of nothing_kept;
  untouched = false;
  cleared = λ i cell. nobody;
  accused = nobody;
  decides = NoChange;
  confirmed = nobody;
  wrote = false;
}

abbrev pub rows_up_to : ℕ → (ℕ → Option Row) → List (Option Row)
rows_up_to zero shown = []
rows_up_to (suc k) shown = rows_up_to k shown ++ shown k ∷ []

-- the row that a brick showed, where it was reached
abbrev pub shown_in : Phase → Cell → ℕ → Option Row
shown_in phase cell k = if phase.reached k then Some (phase.rows k cell) else None

-- the rows of one cell, in the order of the replicas
abbrev pub rows_in : Size → Phase → Cell → List (Option Row)
rows_in size phase cell = rows_up_to size.replicas (shown_in phase cell)

-- the replica is sound on the cell, by the rows of this lock phase
abbrev pub IsSoundIn : Size → Phase → Cell → ℕ → Type 0
IsSoundIn size phase cell i = IsSound (rows_in size phase cell) size.replicas size.quorum i

abbrev pub IsSoundOn : Size → Phase → List Cell → ℕ → Type 0
IsSoundOn size phase cells i = (cell : Cell) → has_cell cells cell ≡ true → IsSoundIn size phase cell i

-- some replica is sound on the cell
pub record HasSound (size : Size) (phase : Phase) (cell : Cell) : Type 0 where
  pub member : ℕ
  pub sound : IsSoundIn size phase cell member

abbrev pub EachHasSound : Size → Phase → Type 0
EachHasSound size phase = (cell : Cell) → has_cell phase.cells cell ≡ true → HasSound size phase cell

-- the replica received a copy of the cell: itself and a quorum confirmed the clear
pub record IsCopiedIn (size : Size) (phase : Phase) (cell : Cell) (i : ℕ) : Type 0 where
  pub itself : phase.cleared i cell i ≡ true
  pub many : size.quorum ≤ count size.replicas (phase.cleared i cell)

-- the replica may take a change of the cell: it is sound, or it received a copy
abbrev pub IsReadyIn : Size → Phase → Cell → ℕ → Type 0
IsReadyIn size phase cell i = IsSoundIn size phase cell i ⊎ IsCopiedIn size phase cell i
