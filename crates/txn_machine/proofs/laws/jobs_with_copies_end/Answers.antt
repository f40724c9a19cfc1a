use Rattle.txn_machine.proofs.Ends.{jobs_with_copies_end}
use Rattle.txn_machine.proofs.laws.jobs_with_copies_end.Goals as goal

pub returns : goal.returns
returns c = jobs_with_copies_end
