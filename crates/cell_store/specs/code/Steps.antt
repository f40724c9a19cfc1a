-- The single steps of a store on one cell, with what takes them back, and the edit of a copy.
use Rattle.std.specs.Prelude.{ℕ, List, [], ◌∷◌, Option, Some, None, if◌then◌else◌}
use Rattle.std.specs.Map.{set_value, remove_entry}
use Rattle.std.specs.BTreeMap.{is_at}
use Rattle.fop_types.specs.Orders.{cell_cmp}
use Rattle.fop_types.specs.declared.cells.Cell.{Cell}
use Rattle.fop_types.specs.StoreOps.{Edit as Part}
use Rattle.fop_types.specs.StoreOps.Edit.{PutBytes, Resize, PutMode, PutAttr, DropAttr, PutItem, DropItem, MarkRemoved}
use Rattle.fop_types.specs.declared.contents.Row.{Row}
use Rattle.contents.specs.declared.edits.Edit.{Edit}
use Rattle.contents.specs.declared.edits.Edit.TheVariants as by
use Rattle.cell_store.specs.declared.kept.Kept.{Kept}
use Rattle.cell_store.specs.declared.steps.Count.{Count}
use Rattle.cell_store.specs.declared.steps.Count.TheVariants.{Mark, Post, Settle}
use Rattle.cell_store.specs.declared.steps.Step.{Step}
use Rattle.cell_store.specs.declared.steps.Step.TheVariants.{Counts, Birth}
use Rattle.cell_store.specs.Cells.{Cells, kept_at, with_kept, mark_of, post_of, settle_of, edit_of, birth_of}

abbrev pub counted : Count → Kept → Kept
counted Mark kept = mark_of kept
counted (Post mask) kept = post_of mask kept
counted (Settle mask) kept = settle_of mask kept

-- what is kept of a cell after a step
abbrev pub stepped : Step → Kept → Kept
stepped (Counts count) kept = counted count kept
stepped (Birth content change) kept = birth_of kept content change

abbrev pub with_step : Cells → Cell → Step → Cells
with_step cells cell step = with_kept cells cell (stepped step (kept_at cells cell))

-- what is kept of a cell, with an earlier row in place of its own
abbrev pub with_row : Kept → Row → Kept
with_row kept row =
    record { content = if row.present then kept.content else None; dirty = row.dirty; pending = row.pending; last = row.last }

-- the store with what an earlier row says of a cell, of which nothing was kept where there is no row
abbrev pub with_earlier : Cells → Cell → Option Row → Cells
with_earlier cells cell None = remove_entry (is_at (cell_cmp cell)) cells
with_earlier cells cell (Some row) = set_value (is_at (cell_cmp cell)) cells (with_row (kept_at cells cell) row)

-- an edit of the code, as those of a store op
abbrev pub edits_by : Edit → List Part
edits_by (by.Write offset bytes) = PutBytes offset bytes ∷ []
edits_by (by.Resize size) = Resize size ∷ []
edits_by (by.SetMode mode) = PutMode mode ∷ []
edits_by (by.PutAttr attr) = PutAttr attr ∷ []
edits_by (by.DropAttr name) = DropAttr name ∷ []
edits_by (by.PutItem item) = PutItem item ∷ []
edits_by (by.DropItem name) = DropItem name ∷ []
edits_by by.MarkRemoved = MarkRemoved ∷ []
edits_by (by.Rename name item) = DropItem name ∷ PutItem item ∷ []

abbrev pub edited_all : List Part → ℕ → Kept → Kept
edited_all [] change kept = kept
edited_all (e ∷ es) change kept = edited_all es change (edit_of kept e change)

abbrev pub edited_kept : Edit → ℕ → Kept → Kept
edited_kept edit change kept = edited_all (edits_by edit) change kept

abbrev pub with_edit : Cells → Cell → Edit → ℕ → Cells
with_edit cells cell edit change = with_kept cells cell (edited_kept edit change (kept_at cells cell))
