use Rattle.std.proofs.Common.{◌≡◌, drop}
use Rattle.afr_transaction.specs.Sound.{agrees}
use Rattle.afr_transaction.proofs.txn.Txn.agrees.Given as goal

abbrev pub invariant-loop-cell : goal.invariant-loop-cell
invariant-loop-cell l = record {
  at : l.c ≡ l._cell-index;
  rest : agrees l.self.shown l.change l.source l.c (drop l._cell-index l.self.cells) l.k ≡ agrees l.self.shown l.change l.source 0 l.self.cells l.k;
}
