use Rattle.frame_driver.proofs.Breadth.{open_within}
use Rattle.frame_driver.proofs.law.open_winds_are_within.Goals as goal

pub returns : goal.returns
returns g c = open_within g.X.Xlator.promise g.X.Xlator.makes
