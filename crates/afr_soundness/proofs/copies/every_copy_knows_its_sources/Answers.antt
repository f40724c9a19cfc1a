use Rattle.afr_soundness.proofs.Settled.{knows_copies}
use Rattle.afr_soundness.proofs.copies.every_copy_knows_its_sources.Goals as goal

pub returns : goal.returns
returns c = knows_copies
