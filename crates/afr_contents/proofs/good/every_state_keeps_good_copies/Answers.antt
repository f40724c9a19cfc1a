use Rattle.afr_contents.proofs.Durable.{keeps_good_copies}
use Rattle.afr_contents.proofs.good.every_state_keeps_good_copies.Goals as goal

pub returns : goal.returns
returns c = keeps_good_copies
