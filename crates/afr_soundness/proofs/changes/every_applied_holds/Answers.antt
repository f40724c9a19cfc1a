use Rattle.afr_soundness.proofs.Applied.{keeps_applied}
use Rattle.afr_soundness.proofs.changes.every_applied_holds.Goals as goal

pub returns : goal.returns
returns c = keeps_applied
