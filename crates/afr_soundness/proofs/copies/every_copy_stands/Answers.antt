use Rattle.afr_soundness.proofs.Copied.Steps.{copies_stand}
use Rattle.afr_soundness.proofs.copies.every_copy_stands.Goals as goal

pub returns : goal.returns
returns c = copies_stand
