use Rattle.std.proofs.Common.{◌≡◌, drop}
use Rattle.afr_transaction.specs.Copies.{with_outs}
use Rattle.afr_transaction.proofs.copying.leave_all.Given as goal

abbrev pub invariant-loop-out : goal.invariant-loop-out
invariant-loop-out l = with_outs l.n l.outs (drop l.out-index l.left) ≡ with_outs l.n l.initial.outs l.left
