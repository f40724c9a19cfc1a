-- A brick's store: one finite map from cell to what is kept of it, as the list of its entries in the
-- order of cells; and what each call makes of it. What an op does to the copies is StoreOps' alone.
use Rattle.std.specs.Prelude.{ℕ, ◌+◌, ◌≤◌, ◌==◌, Bool, false, List, [], ◌∷◌, Option, Some, None, is_some, if◌then◌else◌}
use Rattle.std.specs.Int.{bit_at}
use Rattle.std.specs.Map.{lookup, set_value}
use Rattle.std.specs.BTreeMap.{insert_entry, is_at}
use Rattle.fop_types.specs.Bounds.{Each}
use Rattle.fop_types.specs.Orders.{cell_cmp}
use Rattle.fop_types.specs.Cells.{root, meta_cell, names_cell}
use Rattle.fop_types.specs.StoreOps.{Contents, Edit, edited_if_present, born_if_absent, births, edits, fits}
use Rattle.fop_types.specs.declared.cells.Cell.{Cell}
use Rattle.fop_types.specs.declared.contents.Content.{Content}
use Rattle.fop_types.specs.declared.contents.Content.TheVariants.{Meta, Names}
use Rattle.fop_types.specs.declared.contents.Mask.{Mask}
use Rattle.fop_types.specs.declared.contents.Row.{Row}
use Rattle.fop_types.specs.declared.store_ops.StoreOp.{StoreOp}
use Rattle.afr_changelog.specs.Counters.{full_count, raised, lowered}
use Rattle.cell_store.specs.declared.kept.Kept.{Kept}

abbrev pub Cells : Type 0
Cells = List (Cell × Kept)

-- nothing is kept of a cell: no copy, no mark, no accusation, no change
abbrev pub nothing_kept : Kept
nothing_kept = record { content = None; dirty = 0; pending = 0 ∷ 0 ∷ 0 ∷ 0 ∷ 0 ∷ []; last = 0 }

abbrev pub kept_or_nothing : Option Kept → Kept
kept_or_nothing None = nothing_kept
kept_or_nothing (Some kept) = kept

abbrev pub kept_at : Cells → Cell → Kept
kept_at cells cell = kept_or_nothing (lookup (is_at (cell_cmp cell)) cells)

abbrev pub with_kept : Cells → Cell → Kept → Cells
with_kept cells cell kept = insert_entry cell_cmp cells cell kept

-- the counters are at most the highest count
abbrev pub IsCounted : Kept → Type 0
IsCounted kept = (kept.dirty ≤ full_count) × Each (λ n. n ≤ full_count) kept.pending

abbrev pub IsCountedRow : Row → Type 0
IsCountedRow row = (row.dirty ≤ full_count) × Each (λ n. n ≤ full_count) row.pending

-- ---- what is read

-- the copy of a cell with the number of its last change, where the cell is present
abbrev pub copy_with : Option Content → ℕ → Option (Content × ℕ)
copy_with None last = None
copy_with (Some content) last = Some (content, last)

abbrev pub copy_of : Kept → Option (Content × ℕ)
copy_of kept = copy_with kept.content kept.last

-- the row of a cell
abbrev pub row_of : Kept → Row
row_of kept = record { present = is_some kept.content; dirty = kept.dirty; pending = kept.pending; last = kept.last }

-- the copies of the cells that are present
abbrev pub contents_of : Cells → Contents
contents_of cells cell = (kept_at cells cell).content

-- the cells that are present, by rising cell
abbrev pub present_in : Cells → List Cell
present_in [] = []
present_in (e ∷ es) = if is_some e.1.content then e.0 ∷ present_in es else present_in es

-- ---- the start

-- the root's metadata, mode 755 octal, and its empty names, both present
abbrev pub root_alone : Cells
root_alone =
    with_kept
    (with_kept [] (meta_cell root) (record nothing_kept { content = Some (Meta 493 [] None) }))
    (names_cell root) (record nothing_kept { content = Some (Names false []) })

-- ---- counters

-- whether a mask names a replica
abbrev pub is_named : Mask → ℕ → Bool
is_named mask replica = bit_at mask.0 replica == 1

-- the counters of replicas from one on, those of a mask's replicas changed
abbrev pub changed_from : (ℕ → ℕ) → Mask → ℕ → List ℕ → List ℕ
changed_from change mask replica [] = []
changed_from change mask replica (n ∷ ns) = (if is_named mask replica then change n else n) ∷ changed_from change mask (replica + 1) ns

-- each replica of a mask is accused once more, or no longer
abbrev pub accused : Mask → List ℕ → List ℕ
accused mask counters = changed_from raised mask 0 counters

abbrev pub cleared_of : Mask → List ℕ → List ℕ
cleared_of mask counters = changed_from (λ _. 0) mask 0 counters

-- a mark raises the count of marks by one; a post lowers it by one and accuses the replicas of a mask; a settle
-- sets it to zero and accuses likewise; a clear takes all accusations of the replicas of a mask back
abbrev pub mark_of : Kept → Kept
mark_of kept = record kept { dirty = raised kept.dirty }

abbrev pub post_of : Mask → Kept → Kept
post_of mask kept = record kept { dirty = lowered kept.dirty; pending = accused mask kept.pending }

abbrev pub settle_of : Mask → Kept → Kept
settle_of mask kept = record kept { dirty = 0; pending = accused mask kept.pending }

abbrev pub clear_of : Mask → Kept → Kept
clear_of mask kept = record kept { pending = cleared_of mask kept.pending }

-- a change of what is kept of each of some cells; a cell of which nothing was kept has a row then
abbrev pub changed_at : (Kept → Kept) → List Cell → Cells → Cells
changed_at change [] cells = cells
changed_at change (cell ∷ others) cells = changed_at change others (with_kept cells cell (change (kept_at cells cell)))

abbrev pub marked : List Cell → Cells → Cells
marked those cells = changed_at mark_of those cells

abbrev pub posted : List Cell → Mask → Cells → Cells
posted those mask cells = changed_at (post_of mask) those cells

abbrev pub settled : List Cell → Mask → Cells → Cells
settled those mask cells = changed_at (settle_of mask) those cells

-- a clear leaves a cell without a row as it is
abbrev pub cleared : List Cell → Mask → Cells → Cells
cleared [] mask cells = cells
cleared (cell ∷ others) mask cells =
    cleared others mask (set_value (is_at (cell_cmp cell)) cells (clear_of mask (kept_at cells cell)))

-- ---- copies

-- a copy that is brought from another brick, with its last change; the counters stay
abbrev pub copied_in : Content → ℕ → Kept → Kept
copied_in content last kept = record kept { content = Some content; last = last }

abbrev pub replaced : Cells → Cell → Content → ℕ → Cells
replaced cells cell content last = with_kept cells cell (copied_in content last (kept_at cells cell))

-- ---- ops

-- an edit of a cell's copy, under a change number
abbrev pub edit_of : Kept → Edit → ℕ → Kept
edit_of kept edit change = record kept { content = edited_if_present edit kept.content; last = change }

-- the birth of a cell, under a change number; one that is present stays as it is, its last change included
abbrev pub birth_of : Kept → Content → ℕ → Kept
birth_of kept content change =
    record kept { content = born_if_absent content kept.content; last = if is_some kept.content then kept.last else change }

abbrev pub with_edits : Cells → ℕ → List (Cell × Edit) → Cells
with_edits cells change [] = cells
with_edits cells change (e ∷ es) = with_edits (with_kept cells e.0 (edit_of (kept_at cells e.0) e.1 change)) change es

abbrev pub with_births : Cells → ℕ → List (Cell × Content) → Cells
with_births cells change [] = cells
with_births cells change (b ∷ bs) = with_births (with_kept cells b.0 (birth_of (kept_at cells b.0) b.1 change)) change bs

-- the store after a fitting op: its edits and then its births, all under its change number
abbrev pub with_op : Cells → ℕ → StoreOp → Cells
with_op cells change op = with_births (with_edits cells change (edits (contents_of cells) op)) change (births op)

-- the store after an op, `None` where the op does not fit
abbrev pub applied : Cells → ℕ → StoreOp → Option Cells
applied cells change op = if fits (contents_of cells) op then Some (with_op cells change op) else None
