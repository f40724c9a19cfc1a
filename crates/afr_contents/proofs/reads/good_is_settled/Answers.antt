use Rattle.afr_contents.proofs.Found.{good_is_settled}
use Rattle.afr_contents.proofs.reads.good_is_settled.Goals as goal

pub returns : goal.returns
returns c = good_is_settled
