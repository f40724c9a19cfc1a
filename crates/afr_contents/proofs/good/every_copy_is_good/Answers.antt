use Rattle.afr_contents.proofs.Coming.{every_copy_is_good}
use Rattle.afr_contents.proofs.good.every_copy_is_good.Goals as goal

pub returns : goal.returns
returns c = every_copy_is_good
