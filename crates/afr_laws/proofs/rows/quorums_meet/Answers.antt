use Rattle.afr_laws.proofs.Counts.{quorums_meet}
use Rattle.afr_laws.proofs.rows.quorums_meet.Goals as goal

pub returns : goal.returns
returns c = quorums_meet
