use Rattle.afr_decisions.proofs.Waits.{locks_in_order}
use Rattle.afr_decisions.proofs.asks.every_lock_is_in_order.Goals as goal

pub returns : goal.returns
returns c = locks_in_order
