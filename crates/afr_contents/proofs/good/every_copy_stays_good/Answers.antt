use Rattle.afr_contents.proofs.Walked.{copies_stay_good}
use Rattle.afr_contents.proofs.good.every_copy_stays_good.Goals as goal

pub returns : goal.returns
returns c = copies_stay_good
