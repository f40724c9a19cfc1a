use Rattle.afr_soundness.proofs.Unsettled.{unsettled_is_alone}
use Rattle.afr_soundness.proofs.changes.every_unsettled_is_alone.Goals as goal

pub returns : goal.returns
returns c = unsettled_is_alone
