use Rattle.txn_laws.proofs.Working.{answers_leave_less, copies_leave_less}
use Rattle.txn_laws.proofs.laws.requests_end.Goals as goal

pub returns-clause-answers : goal.returns-clause-answers
returns-clause-answers c = answers_leave_less

pub returns-clause-copies : goal.returns-clause-copies
returns-clause-copies c = copies_leave_less
