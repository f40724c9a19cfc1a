use Rattle.fop_types.specs.StoreOps.Edit.{PutItem}
use Rattle.cell_store.proofs.Edits.{still_after, moved_between}
use Rattle.cell_store.proofs.cell_map.CellMap.move_between.Goals as goal

pub edit_surely-requires-clause-present : goal.edit_surely-requires-clause-present
edit_surely-requires-clause-present c = still_after _ _ _ _ _ (PutItem c.args.item) _ c.requires.from c.names_cell-2.ensures c.in_ok-edit.ensures.ok

pub returns-clause-ok : goal.returns-clause-ok
returns-clause-ok c = moved_between _ _ _ c.args.parent c.args.target _ _ _ _ _ c.requires.apart c.names_cell-2.ensures c.names_cell.ensures c.in_ok-edit.ensures.ok c.edit_surely.ensures
