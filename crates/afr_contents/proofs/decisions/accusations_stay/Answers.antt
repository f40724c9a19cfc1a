use Rattle.afr_contents.proofs.Staying.{accusations_stay}
use Rattle.afr_contents.proofs.decisions.accusations_stay.Goals as goal

pub returns : goal.returns
returns c = accusations_stay
