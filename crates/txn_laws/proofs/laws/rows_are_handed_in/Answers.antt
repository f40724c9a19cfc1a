use Rattle.txn_laws.proofs.Known.{begins_show, answers_show, copies_show}
use Rattle.txn_laws.proofs.laws.rows_are_handed_in.Goals as goal

pub returns-clause-begin : goal.returns-clause-begin
returns-clause-begin c = begins_show

pub returns-clause-answers : goal.returns-clause-answers
returns-clause-answers c = answers_show

pub returns-clause-copies : goal.returns-clause-copies
returns-clause-copies c = copies_show
