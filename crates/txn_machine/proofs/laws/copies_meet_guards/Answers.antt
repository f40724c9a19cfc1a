use Rattle.txn_machine.proofs.Copying.{copies_begin_meet, copy_answers_meet}
use Rattle.txn_machine.proofs.laws.copies_meet_guards.Goals as goal

pub returns-clause-begin : goal.returns-clause-begin
returns-clause-begin c = copies_begin_meet

pub returns-clause-answers : goal.returns-clause-answers
returns-clause-answers c = copy_answers_meet
