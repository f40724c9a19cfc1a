use Rattle.txn_laws.proofs.Splits.{answers_skip, copies_skip}
use Rattle.txn_laws.proofs.laws.skips_have_causes.Goals as goal

pub returns-clause-answers : goal.returns-clause-answers
returns-clause-answers c = answers_skip

pub returns-clause-copies : goal.returns-clause-copies
returns-clause-copies c = copies_skip
