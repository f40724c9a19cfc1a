use Rattle.afr_contents.proofs.Laws.{sources_good}
use Rattle.afr_contents.proofs.copies.sources_are_good.Goals as goal

pub returns : goal.returns
returns c = sources_good
