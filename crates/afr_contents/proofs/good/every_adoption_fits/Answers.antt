use Rattle.afr_contents.proofs.Fitting.{adoptions_fit}
use Rattle.afr_contents.proofs.good.every_adoption_fits.Goals as goal

pub returns : goal.returns
returns c = adoptions_fit
