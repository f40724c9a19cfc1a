use Rattle.brick_machine.proofs.Lockings.{rows_next}
use Rattle.brick_machine.proofs.locking.rows_of.Goals as goal

pub loop-cell-preserved : goal.loop-cell-preserved
loop-cell-preserved c =
    rows_next c.args.store.now.cells c.args.those.now c.loop-cell.cell-index _ c.loop-cell.rows.items _ c.row.result c.loop-cell-test.true c.row.ensures c.in_ok-push.ensures.items c.loop-cell.invariant
