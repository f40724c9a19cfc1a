use Rattle.std.proofs.Common.{◌≡◌, drop}
use Rattle.afr_transaction.specs.Parts.{common_from, common_of}
use Rattle.afr_transaction.proofs.txn.Txn.common.Given as goal

abbrev pub invariant-loop-cell : goal.invariant-loop-cell
invariant-loop-cell l = record {
  at : l.c ≡ l._cell-index;
  rest : common_from l.self l.common.flags l.c (drop l._cell-index l.self.cells) ≡ common_of l.self;
}
