use Rattle.std.proofs.Common.{◌≡◌, ◌-◌, length}
use Rattle.afr_transaction.specs.Reads.{with_absent}
use Rattle.afr_transaction.proofs.txn.Txn.with_absent.Given as goal

abbrev pub invariant-loop-c : goal.invariant-loop-c
invariant-loop-c l = record {
  at : length l.all ≡ l.c;
  rest : with_absent l.self l.all (length l.self.cells - l.c) ≡ with_absent l.self l.initial.all (length l.self.cells - l.known);
}
