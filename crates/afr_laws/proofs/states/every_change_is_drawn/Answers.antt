use Rattle.afr_laws.proofs.Drawn.{changes_are_drawn}
use Rattle.afr_laws.proofs.states.every_change_is_drawn.Goals as goal

pub returns : goal.returns
returns c = changes_are_drawn
