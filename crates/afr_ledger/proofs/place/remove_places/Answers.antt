use Rattle.afr_ledger.proofs.Steps.{write_one}
use Rattle.afr_ledger.proofs.place.remove_places.Goals as goal

pub loop-cell-preserved : goal.loop-cell-preserved
loop-cell-preserved g c = λ s cell. write_one g.C.Ord.cmp c.args.set c.args.cells.now c.loop-cell.cell-index c.cell-item.result s cell _ _ _ _ c.cell-item.is c.loop-cell-test.true (c.loop-cell.invariant s cell) (c.remove.ensures.updates.0 _)
