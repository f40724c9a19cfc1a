use Rattle.std.proofs.Common.{◌∷◌, []}
use Rattle.cell_store.proofs.Edits.{added, added_there}
use Rattle.cell_store.proofs.cell_map.CellMap.add_object.Goals as goal

pub edit-requires-clause-present : goal.edit-requires-clause-present
edit-requires-clause-present c =
    added_there c.args.self.now _ c.args.parent _ c.args.change ((c.args.first.now, c.args.a) ∷ (c.args.second.now, c.args.b) ∷ []) c.requires c.names_cell.ensures c.in_ok-rows.ensures.ok

pub returns-in-Ok-clause-ok : goal.returns-in-Ok-clause-ok
returns-in-Ok-clause-ok c =
    added c.args.self.now _ _ c.args.parent _ c.args.item c.args.change ((c.args.first.now, c.args.a) ∷ (c.args.second.now, c.args.b) ∷ []) c.requires c.names_cell.ensures c.in_ok-rows.ensures.ok
    c.in-Ok.ensures.ok
