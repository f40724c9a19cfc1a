use Rattle.afr_soundness.proofs.Takers.Steps.{keeps_takers}
use Rattle.afr_soundness.proofs.phases.every_decision_spares_a_taker.Goals as goal

pub returns : goal.returns
returns c = keeps_takers
