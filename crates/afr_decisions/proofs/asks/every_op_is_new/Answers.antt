use Rattle.afr_decisions.proofs.OpsNew.{ops_are_new}
use Rattle.afr_decisions.proofs.asks.every_op_is_new.Goals as goal

pub returns : goal.returns
returns c = ops_are_new
