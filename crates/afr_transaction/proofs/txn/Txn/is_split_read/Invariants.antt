use Rattle.std.proofs.Common.{◌≡◌, drop}
use Rattle.afr_transaction.specs.Reads.{is_split_read}
use Rattle.afr_transaction.proofs.txn.Txn.is_split_read.Given as goal

abbrev pub invariant-loop-cell : goal.invariant-loop-cell
invariant-loop-cell l = record {
  at : l.c ≡ l._cell-index;
  rest : is_split_read l.self l.c (drop l._cell-index l.self.cells) ≡ is_split_read l.self 0 l.self.cells;
}
