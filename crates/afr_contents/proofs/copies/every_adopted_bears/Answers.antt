use Rattle.afr_contents.proofs.Bearers.{adopted_bears}
use Rattle.afr_contents.proofs.copies.every_adopted_bears.Goals as goal

pub returns : goal.returns
returns c = adopted_bears
