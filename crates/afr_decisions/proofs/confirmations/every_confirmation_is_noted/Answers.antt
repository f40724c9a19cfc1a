use Rattle.afr_decisions.proofs.Confirmed.{keeps_confirmed}
use Rattle.afr_decisions.proofs.confirmations.every_confirmation_is_noted.Goals as goal

pub returns : goal.returns
returns c = keeps_confirmed
