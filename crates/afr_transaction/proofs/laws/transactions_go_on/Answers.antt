use Rattle.afr_transaction.proofs.EachTurn.{begins, answers, copies}
use Rattle.afr_transaction.proofs.laws.transactions_go_on.Goals as goal

pub returns-clause-begin : goal.returns-clause-begin
returns-clause-begin c = begins

pub returns-clause-answers : goal.returns-clause-answers
returns-clause-answers c = answers

pub returns-clause-copies : goal.returns-clause-copies
returns-clause-copies c = copies
