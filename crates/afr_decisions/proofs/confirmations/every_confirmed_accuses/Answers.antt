use Rattle.afr_decisions.proofs.Staying.{confirmed_accuse}
use Rattle.afr_decisions.proofs.confirmations.every_confirmed_accuses.Goals as goal

pub returns : goal.returns
returns c = confirmed_accuse
