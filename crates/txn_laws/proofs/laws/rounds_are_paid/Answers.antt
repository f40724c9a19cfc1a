use Rattle.txn_laws.proofs.Others.{begins_have_few}
use Rattle.txn_laws.proofs.Working.{answers_are_paid, copies_are_paid}
use Rattle.txn_laws.proofs.laws.rounds_are_paid.Goals as goal

pub returns-clause-begin : goal.returns-clause-begin
returns-clause-begin c = begins_have_few

pub returns-clause-answers : goal.returns-clause-answers
returns-clause-answers c = answers_are_paid

pub returns-clause-copies : goal.returns-clause-copies
returns-clause-copies c = copies_are_paid
