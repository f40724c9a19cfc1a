-- What the replicas showed with their locks, and which of the reached ones are sound by it.
use Rattle.std.specs.Prelude.{ℕ, ◌+◌, ◌-◌, ◌==◌, nat_lt, Bool, false, ◌&&◌, List, [], ◌∷◌, ◌++◌, Option, Some, None, take, slice_get, slice_index, slice_index_or, if◌then◌else◌}
use Rattle.std.specs.List.{slice_set}
use Rattle.fop_types.specs.declared.answers.SplitRow.{SplitRow}
use Rattle.fop_types.specs.declared.cells.Cell.{Cell}
use Rattle.fop_types.specs.declared.contents.Row.{Row}
use Rattle.afr_changelog.specs.Soundness.{row_of, reached_in, accusers_of}
use Rattle.afr_phases.specs.declared.shown.Shown.{Shown}
use Rattle.afr_phases.specs.Flags.{flag, flags_by, no_flags}

abbrev pub nothing_shown : Shown
nothing_shown = record { rows = None ∷ None ∷ None ∷ None ∷ None ∷ []; reached = no_flags }

abbrev pub with_rows : Shown → ℕ → List Row → Shown
with_rows shown k rows = record shown { rows = slice_set shown.rows k (Some rows) }

abbrev pub reaching : Shown → List Bool → Shown
reaching shown reached = record shown { reached = reached }

abbrev pub row_among : Option (List Row) → ℕ → Option Row
row_among None c = None
row_among (Some rows) c = slice_get rows c

-- the row of the `c`-th cell that a reached replica showed
abbrev pub shown_at : Shown → ℕ → ℕ → Option Row
shown_at shown c k = if flag shown.reached k then row_among (slice_index_or shown.rows k None) c else None

-- ---- soundness, as a test

abbrev pub is_row_good : Option Row → ℕ → Bool
is_row_good None k = false
is_row_good (Some row) k = row.present && slice_index row.pending k == 0

-- a replica is sound where its copy is there, it does not accuse itself, and fewer of the reached replicas accuse it
-- than were reached, less n - q
abbrev pub is_sound : List (Option Row) → ℕ → ℕ → ℕ → Bool
is_sound rows n q k = is_row_good (row_of rows k) k && nat_lt (accusers_of rows k) (reached_in rows - (n - q))

abbrev pub sound_flags : List (Option Row) → ℕ → ℕ → List Bool
sound_flags rows n q = flags_by (is_sound rows n q)

-- the rows of one cell, for each of five replicas
abbrev pub rows_at : Shown → ℕ → List (Option Row)
rows_at shown c = shown_at shown c 0 ∷ shown_at shown c 1 ∷ shown_at shown c 2 ∷ shown_at shown c 3 ∷ shown_at shown c 4 ∷ []

-- the reached replicas whose copy of the `c`-th cell is sound
abbrev pub sound_at : Shown → ℕ → ℕ → ℕ → List Bool
sound_at shown c n q = sound_flags (take n (rows_at shown c)) n q

-- ---- rows as they are answered

abbrev pub with_name : Option Row → Cell → ℕ → List SplitRow
with_name None cell name = []
with_name (Some row) cell name = record { cell = cell; brick = name; row = row } ∷ []

abbrev pub row_listed : Shown → List ℕ → ℕ → Cell → ℕ → List SplitRow
row_listed shown names c cell k = with_name (shown_at shown c k) cell (slice_index names k)

abbrev pub rows_of_cell : Shown → List ℕ → ℕ → Cell → List SplitRow
rows_of_cell shown names c cell =
    row_listed shown names c cell 0 ++ (row_listed shown names c cell 1 ++ (row_listed shown names c cell 2
    ++ (row_listed shown names c cell 3 ++ row_listed shown names c cell 4)))

-- the rows of cells from the `c`-th on, by cell and then by replica
abbrev pub rows_listed : Shown → List ℕ → ℕ → List Cell → List SplitRow
rows_listed shown names c [] = []
rows_listed shown names c (cell ∷ cells) = rows_of_cell shown names c cell ++ rows_listed shown names (c + 1) cells
