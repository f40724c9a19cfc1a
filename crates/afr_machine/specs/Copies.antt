-- What a brick keeps of each cell: its copy, as the numbers of the changes in it and the content, and the counters of
-- the changelog beside it; and what each request makes of one cell. After cluster/replicate: mark raises dirty, post
-- lowers it and accuses the replicas that missed the change, settle sets it to zero and accuses those outside the
-- group, clear takes accusations back, a replacement takes the copy that was fetched elsewhere.
use Rattle.std.specs.Prelude.{ℕ, Bool, true, false, ◌&&◌, ◌||◌, ◌==◌, List, [], ◌∷◌, Option, Some, None, is_some, is_none, if◌then◌else◌}
use Rattle.fop_types.specs.Cells.{root, meta_cell, names_cell}
use Rattle.fop_types.specs.StoreOps.{Contents, needs, births, fits, content_after}
use Rattle.fop_types.specs.Jobs.{cells_of}
use Rattle.fop_types.specs.declared.cells.Cell.{Cell}
use Rattle.fop_types.specs.declared.contents.Content.{Content}
use Rattle.fop_types.specs.declared.contents.Content.TheVariants.{Meta, Names}
use Rattle.fop_types.specs.declared.contents.Row.{Row}
use Rattle.fop_types.specs.declared.store_ops.StoreOp.{StoreOp}
use Rattle.afr_changelog.specs.Counters.{raised, lowered}
use Rattle.afr_machine.specs.Replicas.{Replicas}
use Rattle.afr_machine.specs.Touching.{is_cell, has_cell}

-- the changes whose ops made this content out of the birth's, the latest first
pub record Copy : Type 0 where
  pub changes : List ℕ
  pub content : Content

pub record Kept : Type 0 where
  pub copy : Option Copy
  pub dirty : ℕ
  pub pending : ℕ → ℕ
  pub last : ℕ

abbrev pub Store : Type 0
Store = Cell → Kept

-- a copy with the number of its last change, as a fetch answers it
pub record Fetched : Type 0 where
  pub copy : Copy
  pub last : ℕ

-- ---- what is read

abbrev pub content_of : Option Copy → Option Content
content_of None = None
content_of (Some copy) = Some copy.content

abbrev pub changes_of : Option Copy → List ℕ
changes_of None = []
changes_of (Some copy) = copy.changes

abbrev pub contents_of : Store → Contents
contents_of store cell = content_of (store cell).copy

abbrev pub row_of : Kept → Row
row_of kept = record {
  present = is_some kept.copy;
  dirty = kept.dirty;
  pending = kept.pending 0 ∷ kept.pending 1 ∷ kept.pending 2 ∷ kept.pending 3 ∷ kept.pending 4 ∷ [];
  last = kept.last;
}

abbrev pub rows_of : Store → Cell → Row
rows_of store cell = row_of (store cell)

abbrev pub fetched_of : Option Copy → ℕ → Option Fetched
fetched_of None last = None
fetched_of (Some copy) last = Some (record { copy = copy; last = last })

-- the number is one of the changes
abbrev pub has_change : List ℕ → ℕ → Bool
has_change [] u = false
has_change (v ∷ vs) u = (u == v) || has_change vs u

-- ---- the start: the root's metadata, mode 755 octal, and its empty names, and nothing else

abbrev pub nothing_kept : Kept
nothing_kept = record { copy = None; dirty = 0; pending = λ i. 0; last = 0 }

abbrev pub born_as : Content → Kept
born_as content = record nothing_kept { copy = Some (record { changes = []; content = content }) }

abbrev pub root_alone : Store
root_alone cell =
    if is_cell cell (meta_cell root) then born_as (Meta 493 [] None)
    else (if is_cell cell (names_cell root) then born_as (Names false []) else nothing_kept)

-- ---- counters

-- the counters of these replicas are raised
abbrev pub accusing : Replicas → (ℕ → ℕ) → ℕ → ℕ
accusing accused pending i = if accused i then raised (pending i) else pending i

abbrev pub mark_of : Kept → Kept
mark_of kept = record kept { dirty = raised kept.dirty }

abbrev pub post_of : Replicas → Kept → Kept
post_of accused kept = record kept { dirty = lowered kept.dirty; pending = accusing accused kept.pending }

abbrev pub settle_of : Replicas → Kept → Kept
settle_of accused kept = record kept { dirty = 0; pending = accusing accused kept.pending }

abbrev pub clear_of : Replicas → Kept → Kept
clear_of who kept = record kept { pending = λ i. if who i then 0 else kept.pending i }

-- each of the cells is changed in the same way
abbrev pub on_cells : List Cell → (Kept → Kept) → Store → Store
on_cells cells change store cell = if has_cell cells cell then change (store cell) else store cell

-- ---- copies

abbrev pub replaced : Cell → Fetched → Store → Store
replaced at found store cell = if is_cell cell at then record (store cell) { copy = Some found.copy; last = found.last } else store cell

-- A cell that is born has no change in it. One that the op alters has the op's number besides.
abbrev pub changes_after : Bool → ℕ → Option Copy → List ℕ
changes_after altered u None = []
changes_after true u (Some copy) = u ∷ copy.changes
changes_after false u (Some copy) = copy.changes

abbrev pub copy_with : List ℕ → Option Content → Option Copy
copy_with changes None = None
copy_with changes (Some content) = Some (record { changes = changes; content = content })

-- the last change is set on the cells that the op alters and on those to which it gives birth
abbrev pub sets_last : StoreOp → Cell → Option Copy → Bool
sets_last op cell copy = has_cell (needs op) cell || (is_none copy && has_cell (cells_of (births op)) cell)

-- what a fitting op makes of one cell
abbrev pub op_of : Contents → ℕ → StoreOp → Cell → Kept → Kept
op_of contents u op cell kept = record kept {
  copy = copy_with (changes_after (has_cell (needs op) cell) u kept.copy) (content_after contents op cell);
  last = if sets_last op cell kept.copy then u else kept.last;
}

-- an op that does not fit changes nothing
abbrev pub after_op : ℕ → StoreOp → Store → Store
after_op u op store cell = if fits (contents_of store) op then op_of (contents_of store) u op cell (store cell) else store cell
