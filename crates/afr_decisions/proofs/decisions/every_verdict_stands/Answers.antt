use Rattle.afr_decisions.proofs.Stands.{verdicts_stand}
use Rattle.afr_decisions.proofs.decisions.every_verdict_stands.Goals as goal

pub returns : goal.returns
returns c = verdicts_stand
