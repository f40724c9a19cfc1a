use Rattle.afr_soundness.proofs.Free.{keeps_free}
use Rattle.afr_soundness.proofs.phases.every_lock_phase_leaves_one_free.Goals as goal

pub returns : goal.returns
returns c = keeps_free
