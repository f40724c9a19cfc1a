use Rattle.afr_soundness.proofs.CopyApart.Steps.{keeps_copies_apart}
use Rattle.afr_soundness.proofs.copies.every_copy_is_apart.Goals as goal

pub returns : goal.returns
returns c = keeps_copies_apart
