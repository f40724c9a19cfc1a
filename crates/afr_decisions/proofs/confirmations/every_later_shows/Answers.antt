use Rattle.afr_decisions.proofs.Shown.{later_show}
use Rattle.afr_decisions.proofs.confirmations.every_later_shows.Goals as goal

pub returns : goal.returns
returns c = later_show
