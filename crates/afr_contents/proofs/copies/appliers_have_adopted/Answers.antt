use Rattle.afr_contents.proofs.Laws.{appliers_adopted}
use Rattle.afr_contents.proofs.copies.appliers_have_adopted.Goals as goal

pub returns : goal.returns
returns c = appliers_adopted
