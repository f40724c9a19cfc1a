use Rattle.afr_contents.proofs.Present.{keeps_present}
use Rattle.afr_contents.proofs.copies.every_change_is_present.Goals as goal

pub returns : goal.returns
returns c = keeps_present
