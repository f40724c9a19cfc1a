use Rattle.std.proofs.Common.{◌∙◌, ap}
use Rattle.std.specs.Prelude.{is_some}
use Rattle.fop_types.specs.StoreOps.Edit.{DropItem}
use Rattle.fop_types.specs.declared.cells.Cell.{Cell}
use Rattle.cell_store.specs.Cells.{contents_of}
use Rattle.cell_store.proofs.Edits.{still_after}
use Rattle.cell_store.proofs.Looks.{both_present}
use Rattle.cell_store.proofs.cell_map.CellMap.drop_dir.Goals as goal

pub edit_surely-requires-clause-present : goal.edit_surely-requires-clause-present
edit_surely-requires-clause-present c =
    ap (λ (x : Cell). is_some (contents_of c.args.self.now x)) c.names_cell.ensures ∙ (both_present (contents_of c.args.self.now) c.args.parent c.args.gfid _ c.requires).0

pub edit_surely-requires-2-clause-present : goal.edit_surely-requires-2-clause-present
edit_surely-requires-2-clause-present c =
    still_after _ _ _ _ _ (DropItem c.args.name) _ (both_present (contents_of c.args.self.now) c.args.parent c.args.gfid _ c.requires).1 c.names_cell-2.ensures c.edit_surely.ensures
