use Rattle.afr_ledger.proofs.Steps.{write_one, back_to}
use Rattle.afr_ledger.proofs.place.add_places.Goals as goal

pub loop-cell-preserved : goal.loop-cell-preserved
loop-cell-preserved g c = λ s cell. write_one g.C.Ord.cmp c.args.set c.args.cells.now c.loop-cell.cell-index c.cell-item.result s cell _ _ _ _ c.cell-item.is c.loop-cell-test.true (c.loop-cell.invariant s cell) (c.in-Ok.ensures.updates.0 _)

pub returns-in_default-clause-err : goal.returns-in_default-clause-err
returns-in_default-clause-err g c = λ s cell. back_to g.C.Ord.cmp c.args.set c.args.cells.now c.loop-cell.cell-index c.args.change s cell _ _ _ (c.requires s cell) (rw c.in_default.ensures.err (c.loop-cell.invariant s cell)) (c.remove_places.ensures s cell)
