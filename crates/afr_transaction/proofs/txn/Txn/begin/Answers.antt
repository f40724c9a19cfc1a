use Rattle.std.proofs.Common.{◌≡◌, ◌∙◌, ap, refl}
use Rattle.afr_transaction.specs.declared.txn.Txn.{Txn}
use Rattle.afr_transaction.specs.Begins.{started}
use Rattle.afr_transaction.proofs.txn.Txn.begin.Goals as goal

pub returns-in-Ok : goal.returns-in-Ok
returns-in-Ok c = record {
  size = _;
  replicas = c.len.ensures;
  quorum = refl;
  turn = c.in-Ok.ensures ∙ ap (λ (t : Txn). started t c.args.ledger.now c.args.live c.args.last.now) c.in_ok-txn.ensures;
}
