use Rattle.afr_contents.proofs.AsBorn.{adopted_as_born}
use Rattle.afr_contents.proofs.good.every_adopted_is_as_born.Goals as goal

pub returns : goal.returns
returns c = adopted_as_born
