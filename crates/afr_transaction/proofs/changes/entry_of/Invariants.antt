use Rattle.std.proofs.Common.{◌≡◌, ◌+◌, drop}
use Rattle.afr_transaction.specs.Changes.{entry_from}
use Rattle.afr_transaction.proofs.changes.entry_of.Given as goal

abbrev pub invariant-loop-entry : goal.invariant-loop-entry
invariant-loop-entry l = record {
  at : l.number ≡ l.entry-index + 1;
  rest : entry_from l.number (drop l.entry-index l.history) l.effect ≡ entry_from 1 l.history l.effect;
}
