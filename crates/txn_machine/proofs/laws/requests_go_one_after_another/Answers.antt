use Rattle.txn_machine.proofs.Others.{one_after_another}
use Rattle.txn_machine.proofs.laws.requests_go_one_after_another.Goals as goal

pub returns : goal.returns
returns c = one_after_another
