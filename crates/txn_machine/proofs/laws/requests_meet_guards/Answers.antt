use Rattle.txn_machine.proofs.EachTurn.{begins_meet, answers_meet, copies_meet}
use Rattle.txn_machine.proofs.laws.requests_meet_guards.Goals as goal

pub returns-clause-begin : goal.returns-clause-begin
returns-clause-begin c = begins_meet

pub returns-clause-answers : goal.returns-clause-answers
returns-clause-answers c = answers_meet

pub returns-clause-copies : goal.returns-clause-copies
returns-clause-copies c = copies_meet
