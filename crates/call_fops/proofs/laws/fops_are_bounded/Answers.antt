use Rattle.call_fops.proofs.Bounded.{fops_are_bounded}
use Rattle.call_fops.proofs.laws.fops_are_bounded.Goals as goal

pub returns : goal.returns
returns c = fops_are_bounded
