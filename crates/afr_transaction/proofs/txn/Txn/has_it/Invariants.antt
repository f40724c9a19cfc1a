use Rattle.std.proofs.Common.{◌≡◌, drop}
use Rattle.afr_transaction.specs.Sound.{has_change}
use Rattle.afr_transaction.proofs.txn.Txn.has_it.Given as goal

abbrev pub invariant-loop-cell : goal.invariant-loop-cell
invariant-loop-cell l = record {
  at : l.c ≡ l._cell-index;
  rest : has_change l.self.shown l.change l.c (drop l._cell-index l.self.cells) l.k ≡ has_change l.self.shown l.change 0 l.self.cells l.k;
}
