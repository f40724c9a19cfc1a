use Rattle.afr_contents.proofs.Laws.{ready_adopted}
use Rattle.afr_contents.proofs.reads.ready_have_adopted.Goals as goal

pub returns : goal.returns
returns c = ready_adopted
