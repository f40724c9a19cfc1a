use Rattle.afr_laws.proofs.Accusers.{accusers_follow}
use Rattle.afr_laws.proofs.rows.accusers_follow.Goals as goal

pub returns : goal.returns
returns c = accusers_follow
