use Rattle.afr_decisions.proofs.Stands.{decisions_stand}
use Rattle.afr_decisions.proofs.decisions.every_decision_stands.Goals as goal

pub returns : goal.returns
returns c = decisions_stand
