use Rattle.std.proofs.Common.{◌≡◌, drop}
use Rattle.afr_transaction.specs.Parts.{parts_from, all_parts}
use Rattle.afr_transaction.proofs.txn.Txn.all_parts.Given as goal

abbrev pub invariant-loop-cell : goal.invariant-loop-cell
invariant-loop-cell l = record {
  at : l.c ≡ l.cell-index;
  rest : parts_from l.self l.parts l.common l.c (drop l.cell-index l.self.cells) ≡ all_parts l.self;
}
