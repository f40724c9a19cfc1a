-- What the rows of a lock phase say of its cells: whether one is absent everywhere, and who has a change.
use Rattle.std.specs.Prelude.{ℕ, ◌+◌, ◌==◌, Bool, true, false, ◌&&◌, ◌||◌, not, List, [], ◌∷◌, Option, Some, None}
use mathlib.Core.Bool.{beq}
use Rattle.fop_types.specs.declared.cells.Cell.{Cell}
use Rattle.fop_types.specs.declared.contents.Row.{Row}
use Rattle.afr_phases.specs.declared.shown.Shown.{Shown}
use Rattle.afr_phases.specs.Shown.{shown_at}

abbrev pub is_here : Option Row → Bool
is_here None = false
is_here (Some row) = row.present

-- the `c`-th cell is absent on every reached replica
abbrev pub is_absent : Shown → ℕ → Bool
is_absent shown c =
    not (is_here (shown_at shown c 0) || (is_here (shown_at shown c 1) || (is_here (shown_at shown c 2)
    || (is_here (shown_at shown c 3) || is_here (shown_at shown c 4)))))

abbrev pub is_last : Option Row → ℕ → Bool
is_last None change = false
is_last (Some row) change = row.last == change

-- the change is the last one in a replica's copy of each cell, from the `c`-th on: then the replica has it
abbrev pub has_change : Shown → ℕ → ℕ → List Cell → ℕ → Bool
has_change shown change c [] k = true
has_change shown change c (cell ∷ cells) k = is_last (shown_at shown c k) change && has_change shown change (c + 1) cells k

-- a replica's copy of the `c`-th cell has the change exactly where the source's has it
abbrev pub is_alike : Shown → ℕ → ℕ → ℕ → ℕ → Bool
is_alike shown change source c k = beq (is_last (shown_at shown c k) change) (is_last (shown_at shown c source) change)

-- the same of each cell, from the `c`-th on: the replica agrees with the source
abbrev pub agrees : Shown → ℕ → ℕ → ℕ → List Cell → ℕ → Bool
agrees shown change source c [] k = true
agrees shown change source c (cell ∷ cells) k = is_alike shown change source c k && agrees shown change source (c + 1) cells k
