use Rattle.afr_soundness.proofs.Deciding.Whose.{decides_exactly}
use Rattle.afr_soundness.proofs.phases.every_phase_accuses_as_it_decides.Goals as goal

pub returns : goal.returns
returns c = decides_exactly
