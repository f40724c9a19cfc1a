use Rattle.afr_laws.proofs.OwnPhases.{keeps_phases}
use Rattle.afr_laws.proofs.states.every_phase_is_own.Goals as goal

pub returns : goal.returns
returns c = keeps_phases
