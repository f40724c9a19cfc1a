use Rattle.brick_machine.proofs.Plain.{plain_runs}
use Rattle.brick_machine.proofs.laws.plain_runs_are_answered.Goals as goal

pub returns-clause-runs : goal.returns-clause-runs
returns-clause-runs c = plain_runs
