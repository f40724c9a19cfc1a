use Rattle.txn_machine.proofs.Leaves.{runs_begin, runs_go_on, runs_leave_for_loss}
use Rattle.txn_machine.proofs.laws.copies_leave_for_loss.Goals as goal

pub returns-clause-begin : goal.returns-clause-begin
returns-clause-begin c = runs_begin

pub returns-clause-answers : goal.returns-clause-answers
returns-clause-answers c = runs_go_on

pub returns-clause-ends : goal.returns-clause-ends
returns-clause-ends c = runs_leave_for_loss
