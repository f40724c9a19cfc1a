use Rattle.std.proofs.Common.{◌∙◌, arith}
use Rattle.afr_transaction.proofs.Entries.{passed}
use Rattle.afr_transaction.proofs.changes.entry_of.Goals as goal

pub loop-entry-preserved : goal.loop-entry-preserved
loop-entry-preserved c = record {
  at = omega arith;
  rest = passed c.args.history.now c.loop-entry.entry-index c.loop-entry.number _ c.args.effect _ c.loop-entry-test.true c.is_same.ensures c.if-is_same.false ∙ c.loop-entry.invariant.rest;
}
