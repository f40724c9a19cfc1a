-- Which copies of a cell a set may trust. The rows of one cell are in the order of the set's n
-- replicas; a place has a row exactly where that replica was reached. A quorum is q of n.
--
-- A replica is sound where its copy is there, it does not accuse itself, and fewer of the reached
-- replicas accuse it than were reached, less n - q. With all n reached this is fewer than a quorum.
use Rattle.std.specs.Prelude.{◌≡◌, ℕ, ◌-◌, ◌==◌, ◌<◌, Bool, false, not, IsTrue, List, Option, Some, None, is_some, slice_index, slice_index_or}
use Rattle.std.specs.List.{count_by}
use Rattle.fop_types.specs.declared.contents.Row.{Row}

-- the replica's row, where it was reached
abbrev pub row_of : List (Option Row) → ℕ → Option Row
row_of rows replica = slice_index_or rows replica None

-- how many replicas were reached
abbrev pub reached_in : List (Option Row) → ℕ
reached_in rows = count_by is_some rows

-- whether a place's row, if it has one, accuses the replica: its counter for it is not zero
abbrev pub accuses : ℕ → Option Row → Bool
accuses replica None = false
accuses replica (Some row) = not (slice_index row.pending replica == 0)

-- how many of the reached replicas accuse the replica
abbrev pub accusers_of : List (Option Row) → ℕ → ℕ
accusers_of rows replica = count_by (accuses replica) rows

-- the replica is sound on the cell
pub record IsSound (rows : List (Option Row)) (n q replica : ℕ) : Type 0 where
  pub row : Row
  pub reached : row_of rows replica ≡ Some row
  pub present : IsTrue row.present
  pub trusts_itself : slice_index row.pending replica ≡ 0
  pub few_accusers : accusers_of rows replica < reached_in rows - (n - q)
