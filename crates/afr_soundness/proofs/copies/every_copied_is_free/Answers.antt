use Rattle.afr_soundness.proofs.Clears.{keeps_cleared}
use Rattle.afr_soundness.proofs.copies.every_copied_is_free.Goals as goal

pub returns : goal.returns
returns c = keeps_cleared
