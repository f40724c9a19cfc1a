-- The copies that a lock phase needs. Each cell is copied from its sources to the reached replicas that are not sound
-- on it. Cells with equal sources and sinks are copied together, by their first cell.
use Rattle.std.specs.Prelude.{ℕ, zero, suc, ◌+◌, Bool, true, false, ◌&&◌, ◌||◌, List, [], ◌∷◌, ◌++◌, is_none, if◌then◌else◌}
use mathlib.Core.Bool.{beq}
use Rattle.fop_types.specs.declared.cells.Cell.{Cell}
use Rattle.afr_transaction.specs.declared.phase.Part.{Part}
use Rattle.afr_phases.specs.Flags.{flag, flags_by, both, but_for, lowest}
use Rattle.afr_transaction.specs.declared.txn.Txn.{Txn}
use Rattle.afr_transaction.specs.Reads.{sound_on}

-- the replicas that are sound on all cells from the `c`-th on, of those that are sound on the cells before
abbrev pub common_from : Txn → List Bool → ℕ → List Cell → List Bool
common_from txn flags c [] = flags
common_from txn flags c (cell ∷ cells) = common_from txn (both flags (sound_on txn c)) (c + 1) cells

-- the replicas that are sound on all cells
abbrev pub common_of : Txn → List Bool
common_of txn = common_from txn (flags_by (λ k. true)) 0 txn.cells

-- the `c`-th cell has no sound replica
unfoldable pub is_unsound : Txn → ℕ → Bool
is_unsound txn c = is_none (lowest (sound_on txn c))

-- some cell from the `c`-th on has no sound replica
abbrev pub is_split : Txn → ℕ → List Cell → Bool
is_split txn c [] = false
is_split txn c (cell ∷ cells) = is_unsound txn c || is_split txn (c + 1) cells

-- the sources of a cell: the replicas that are sound on all cells, where there is one, else those sound on the cell
abbrev pub sources_for : List Bool → List Bool → List Bool
sources_for common sound = if is_none (lowest common) then sound else common

abbrev pub same_flags : List Bool → List Bool → Bool
same_flags a b =
    beq (flag a 0) (flag b 0) && (beq (flag a 1) (flag b 1) && (beq (flag a 2) (flag b 2)
    && (beq (flag a 3) (flag b 3) && beq (flag a 4) (flag b 4))))

-- the place of the first part with these sources and sinks, or the number of parts
abbrev pub place_of : List Part → List Bool → List Bool → ℕ
place_of [] sources sinks = 0
place_of (part ∷ parts) sources sinks =
    if same_flags part.sources sources && same_flags part.sinks sinks then 0 else place_of parts sources sinks + 1

abbrev pub with_cell : Part → Cell → Part
with_cell part cell = record part { cells = part.cells ++ cell ∷ [] }

-- the cell joins the part at a place, or makes a part of its own at the end
abbrev pub joined_at : ℕ → List Part → Cell → List Bool → List Bool → List Part
joined_at place [] cell sources sinks = record { cells = cell ∷ []; sources = sources; sinks = sinks } ∷ []
joined_at zero (part ∷ parts) cell sources sinks = with_cell part cell ∷ parts
joined_at (suc place) (part ∷ parts) cell sources sinks = part ∷ joined_at place parts cell sources sinks

-- a cell joins the first part with its sources and sinks, or makes a part of its own at the end
abbrev pub joined : List Part → Cell → List Bool → List Bool → List Part
joined parts cell sources sinks = joined_at (place_of parts sources sinks) parts cell sources sinks

-- a cell without sinks is not copied
abbrev pub with_copy : List Part → Cell → List Bool → List Bool → List Part
with_copy parts cell sources sinks = if is_none (lowest sinks) then parts else joined parts cell sources sinks

-- the parts of the cells from the `c`-th on, after those of earlier cells
abbrev pub parts_from : Txn → List Part → List Bool → ℕ → List Cell → List Part
parts_from txn parts common c [] = parts
parts_from txn parts common c (cell ∷ cells) =
    parts_from txn (with_copy parts cell (sources_for common (sound_on txn c)) (but_for txn.shown.reached (sound_on txn c))) common (c + 1) cells

-- all copies of a lock phase
abbrev pub all_parts : Txn → List Part
all_parts txn = parts_from txn [] (common_of txn) 0 txn.cells
