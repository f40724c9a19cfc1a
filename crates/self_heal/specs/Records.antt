-- The records of a copy: one for each cell and each sink that has every cell, by cell and then by sink. Each has the
-- source of its cell, the number of the last change in the content, and the cell's rows from the lock phase.
use Rattle.std.specs.Prelude.{ℕ, ◌+◌, ◌==◌, Bool, true, false, ◌&&◌, List, [], ◌∷◌, ◌++◌, Option, Some, None, slice_get, if◌then◌else◌}
use Rattle.fop_types.specs.Rank.{rank}
use Rattle.fop_types.specs.declared.answers.SplitRow.{SplitRow}
use Rattle.fop_types.specs.declared.cells.Cell.{Cell}
use Rattle.fop_types.specs.declared.copy_jobs.CopyRecord.{CopyRecord}
use Rattle.afr_phases.specs.Flags.{flag}
use Rattle.self_heal.specs.declared.stage.Origin.{Origin}

abbrev pub is_cell : Cell → Cell → Bool
is_cell a b = a.gfid.hi == b.gfid.hi && (a.gfid.lo == b.gfid.lo && rank a.aspect == rank b.aspect)

-- the rows of one cell
unfoldable pub rows_for : Cell → List SplitRow → List SplitRow
rows_for cell [] = []
rows_for cell (row ∷ rows) = if is_cell row.cell cell then row ∷ rows_for cell rows else rows_for cell rows

abbrev pub copied_from : Option Origin → Origin
copied_from None = record { source = 0; last = 0 }
copied_from (Some origin) = origin

-- where the copy of the `c`-th cell came from
abbrev pub origin_at : List Origin → ℕ → Origin
origin_at origins c = copied_from (slice_get origins c)

abbrev pub record_of : List SplitRow → Origin → Cell → ℕ → CopyRecord
record_of rows origin cell sink = record { cell = cell; source = origin.source; sink = sink; rows = rows_for cell rows; last = origin.last }

abbrev pub record_at : List SplitRow → List Origin → Cell → ℕ → ℕ → Bool → List CopyRecord
record_at rows origins cell c sink false = []
record_at rows origins cell c sink true = record_of rows (origin_at origins c) cell sink ∷ []

abbrev pub records_of_cell : List SplitRow → List Origin → List Bool → ℕ → Cell → List CopyRecord
records_of_cell rows origins sinks c cell =
    record_at rows origins cell c 0 (flag sinks 0) ++ (record_at rows origins cell c 1 (flag sinks 1)
    ++ (record_at rows origins cell c 2 (flag sinks 2) ++ (record_at rows origins cell c 3 (flag sinks 3)
    ++ record_at rows origins cell c 4 (flag sinks 4))))

-- the records of the cells from the `c`-th on
abbrev pub records_from : List SplitRow → List Origin → List Bool → ℕ → List Cell → List CopyRecord
records_from rows origins sinks c [] = []
records_from rows origins sinks c (cell ∷ cells) = records_of_cell rows origins sinks c cell ++ records_from rows origins sinks (c + 1) cells
