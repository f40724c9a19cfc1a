use Rattle.std.proofs.Common.{arith}
use Rattle.afr_transaction.proofs.Growing.{rows_more}
use Rattle.afr_transaction.proofs.txn.Txn.split_rows.Goals as goal

pub loop-cell-preserved : goal.loop-cell-preserved
loop-cell-preserved c = record {
  at = omega arith;
  rest = rows_more c.args.self.now c.loop-cell.c c.args.self.now.cells c.as_slice-cell-items.result.now c.loop-cell.cell-index _ c.loop-cell.rows.items c.push_split.new.rows.items _
      c.as_slice-cell-items.ensures c.loop-cell-test.true c.in_ok-push_split.ensures c.loop-cell.invariant.rest;
}
