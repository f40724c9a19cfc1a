use Rattle.std.proofs.Common.{◌≡◌, ◌++◌, drop}
use Rattle.afr_transaction.specs.Reads.{split_rows}
use Rattle.afr_transaction.proofs.txn.Txn.split_rows.Given as goal

abbrev pub invariant-loop-cell : goal.invariant-loop-cell
invariant-loop-cell l = record {
  at : l.c ≡ l.cell-index;
  rest : l.rows.items ++ split_rows l.self l.c (drop l.cell-index l.self.cells) ≡ split_rows l.self 0 l.self.cells;
}
