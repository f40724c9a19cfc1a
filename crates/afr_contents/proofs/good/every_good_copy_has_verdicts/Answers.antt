use Rattle.afr_contents.proofs.Verdicts.{good_has_verdicts}
use Rattle.afr_contents.proofs.good.every_good_copy_has_verdicts.Goals as goal

pub returns : goal.returns
returns c = good_has_verdicts
