use Rattle.afr_laws.proofs.LastPhase.Steps.{keeps_sound}
use Rattle.afr_laws.proofs.states.every_sound_is_free.Goals as goal

pub returns : goal.returns
returns c = keeps_sound
