use Rattle.afr_soundness.proofs.Guarded.{leaves_one_free}
use Rattle.afr_soundness.proofs.changes.every_state_leaves_one_free.Goals as goal

pub returns : goal.returns
returns c = leaves_one_free
