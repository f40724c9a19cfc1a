use Rattle.txn_laws.proofs.RunEnding.{runs_end}
use Rattle.txn_laws.proofs.laws.runs_end.Goals as goal

pub returns : goal.returns
returns c = runs_end
