use Rattle.afr_contents.proofs.Earlier.{known_is_shown}
use Rattle.afr_contents.proofs.copies.every_known_is_shown.Goals as goal

pub returns : goal.returns
returns c = known_is_shown
