use Rattle.afr_soundness.proofs.OwnFree.{unsettled_has_free}
use Rattle.afr_soundness.proofs.changes.every_unsettled_has_free.Goals as goal

pub returns : goal.returns
returns c = unsettled_has_free
