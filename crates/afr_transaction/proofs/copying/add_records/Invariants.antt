use Rattle.std.proofs.Common.{◌≡◌, ◌++◌}
use Rattle.afr_transaction.proofs.copying.add_records.Given as goal

abbrev pub invariant-loop-record : goal.invariant-loop-record
invariant-loop-record l = l.records ≡ l.initial.records ++ l.yielded
