use Rattle.afr_contents.proofs.Spread.{decisions_spread}
use Rattle.afr_contents.proofs.decisions.every_decision_is_spread.Goals as goal

pub returns : goal.returns
returns c = decisions_spread
