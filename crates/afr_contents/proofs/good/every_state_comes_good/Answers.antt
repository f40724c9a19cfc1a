use Rattle.afr_contents.proofs.Coming.{comes_good}
use Rattle.afr_contents.proofs.good.every_state_comes_good.Goals as goal

pub returns : goal.returns
returns c = comes_good
