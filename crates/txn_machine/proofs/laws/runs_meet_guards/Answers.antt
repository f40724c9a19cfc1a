use Rattle.txn_machine.proofs.Runs.{runs_meet_guards}
use Rattle.txn_machine.proofs.laws.runs_meet_guards.Goals as goal

pub returns : goal.returns
returns c = runs_meet_guards
