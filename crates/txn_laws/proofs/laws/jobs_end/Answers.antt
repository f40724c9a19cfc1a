use Rattle.txn_laws.proofs.Ending.{jobs_end}
use Rattle.txn_laws.proofs.laws.jobs_end.Goals as goal

pub returns : goal.returns
returns c = jobs_end
