use Rattle.afr_decisions.proofs.One.{one_is_unaccused}
use Rattle.afr_decisions.proofs.asks.one_is_unaccused.Goals as goal

pub returns : goal.returns
returns c = one_is_unaccused
