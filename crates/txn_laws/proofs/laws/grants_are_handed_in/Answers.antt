use Rattle.txn_laws.proofs.Known.{begins_grant, answers_grant, copies_grant}
use Rattle.txn_laws.proofs.laws.grants_are_handed_in.Goals as goal

pub returns-clause-begin : goal.returns-clause-begin
returns-clause-begin c = begins_grant

pub returns-clause-answers : goal.returns-clause-answers
returns-clause-answers c = answers_grant

pub returns-clause-copies : goal.returns-clause-copies
returns-clause-copies c = copies_grant
