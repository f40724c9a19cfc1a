use Rattle.afr_contents.proofs.OfAdopted.{changes_of_adopted}
use Rattle.afr_contents.proofs.good.every_change_is_of_adopted.Goals as goal

pub returns : goal.returns
returns c = changes_of_adopted
