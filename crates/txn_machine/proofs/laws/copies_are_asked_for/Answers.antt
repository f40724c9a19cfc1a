use Rattle.txn_machine.proofs.CopyAsks.{begins_ask_for, answers_ask_for, copies_ask_for}
use Rattle.txn_machine.proofs.laws.copies_are_asked_for.Goals as goal

pub returns-clause-begin : goal.returns-clause-begin
returns-clause-begin c = begins_ask_for

pub returns-clause-answers : goal.returns-clause-answers
returns-clause-answers c = answers_ask_for

pub returns-clause-copies : goal.returns-clause-copies
returns-clause-copies c = copies_ask_for
