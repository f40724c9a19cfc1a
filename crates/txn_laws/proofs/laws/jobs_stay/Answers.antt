use Rattle.txn_laws.proofs.Known.{begins_stay, answers_stay, copies_stay}
use Rattle.txn_laws.proofs.laws.jobs_stay.Goals as goal

pub returns-clause-begin : goal.returns-clause-begin
returns-clause-begin c = begins_stay

pub returns-clause-answers : goal.returns-clause-answers
returns-clause-answers c = answers_stay

pub returns-clause-copies : goal.returns-clause-copies
returns-clause-copies c = copies_stay
