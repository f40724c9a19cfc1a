use Rattle.call_fops.proofs.Moves.{descriptors_follow}
use Rattle.call_fops.proofs.laws.descriptors_follow.Goals as goal

pub returns : goal.returns
returns c = descriptors_follow
