use Rattle.afr_soundness.proofs.Replaced.Steps.{replaced_have_copies}
use Rattle.afr_soundness.proofs.copies.every_replaced_has_copy.Goals as goal

pub returns : goal.returns
returns c = replaced_have_copies
