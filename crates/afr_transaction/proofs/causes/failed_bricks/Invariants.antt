use Rattle.std.proofs.Common.{◌≡◌, drop}
use Rattle.afr_transaction.specs.Txns.{fault_pairs}
use Rattle.afr_transaction.proofs.causes.failed_bricks.Given as goal

abbrev pub invariant-loop-k : goal.invariant-loop-k
invariant-loop-k l = l.list.items ≡ fault_pairs l.bricks (drop l.k l.outs)
