use Rattle.afr_contents.proofs.Laws.{free_good}
use Rattle.afr_contents.proofs.good.free_is_good.Goals as goal

pub returns : goal.returns
returns c = free_good
