use Rattle.frame_driver.proofs.Sharing.{traces_bounded}
use Rattle.frame_driver.proofs.law.traces_are_bounded.Goals as goal

pub returns : goal.returns
returns g c = traces_bounded g.X.Xlator.promise g.X.Xlator.makes
