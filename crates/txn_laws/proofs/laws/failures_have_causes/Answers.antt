use Rattle.txn_laws.proofs.Failures.{begins_have_causes, answers_have_causes, copies_have_causes}
use Rattle.txn_laws.proofs.laws.failures_have_causes.Goals as goal

pub returns-clause-begin : goal.returns-clause-begin
returns-clause-begin c = begins_have_causes

pub returns-clause-answers : goal.returns-clause-answers
returns-clause-answers c = answers_have_causes

pub returns-clause-copies : goal.returns-clause-copies
returns-clause-copies c = copies_have_causes
