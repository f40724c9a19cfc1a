use Rattle.afr_decisions.proofs.Guarded.{is_guarded}
use Rattle.afr_decisions.proofs.decisions.every_state_is_guarded.Goals as goal

pub returns : goal.returns
returns c = is_guarded
