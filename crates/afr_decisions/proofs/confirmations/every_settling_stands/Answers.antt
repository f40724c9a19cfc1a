use Rattle.afr_decisions.proofs.Settlings.{settlings_stand}
use Rattle.afr_decisions.proofs.confirmations.every_settling_stands.Goals as goal

pub returns : goal.returns
returns c = settlings_stand
