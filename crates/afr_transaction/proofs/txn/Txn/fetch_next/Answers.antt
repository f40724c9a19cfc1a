use Rattle.afr_transaction.proofs.Steps.{goes_on}
use Rattle.afr_transaction.proofs.txn.Txn.fetch_next.Goals as goal

pub returns : goal.returns
returns c =
    goes_on c.args.self.now c.args.place c.len.result c.args.contents c.in_ok-contents.contents c.cell_at-next.result c.args.ledger.now c.args.live c.args.last.now _
    c.in_ok-contents.ensures c.len.ensures c.cell_at-next.ensures c.in_ok-need.ensures
