use Rattle.frame_laws.proofs.Witness.{rest_is_met}
use Rattle.frame_laws.proofs.laws.rest_is_met.Goals as goal

pub returns : goal.returns
returns c = rest_is_met
