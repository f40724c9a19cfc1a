use Rattle.client_xlator.proofs.Ended.{ended_stays}
use Rattle.client_xlator.proofs.law.ended_stays_ended.Goals as goal

pub returns : goal.returns
returns c = ended_stays
