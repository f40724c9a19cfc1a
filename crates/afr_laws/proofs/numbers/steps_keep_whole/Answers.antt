use Rattle.afr_laws.proofs.Whole.{steps_keep_whole}
use Rattle.afr_laws.proofs.numbers.steps_keep_whole.Goals as goal

pub returns : goal.returns
returns c = steps_keep_whole
