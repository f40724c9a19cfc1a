use Rattle.cell_store.proofs.Edits.{clear_next}
use Rattle.cell_store.proofs.cell_map.CellMap.clear.Goals as goal

pub loop-cell-preserved : goal.loop-cell-preserved
loop-cell-preserved c = clear_next c.args.cells.now c.loop-cell.cell-index _ c.args.who _ _ _ c.loop-cell-test.true c.clear_one.ensures c.loop-cell.invariant
