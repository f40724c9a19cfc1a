use Rattle.txn_laws.proofs.Elsewhere.{elsewhere_raises_nothing}
use Rattle.txn_laws.proofs.Others.{draws_raise_nothing, decisions_raise_nothing, begins_raise_by_two}
use Rattle.txn_laws.proofs.laws.others_add_few_rounds.Goals as goal

pub returns-clause-draws : goal.returns-clause-draws
returns-clause-draws c = draws_raise_nothing

pub returns-clause-decisions : goal.returns-clause-decisions
returns-clause-decisions c = decisions_raise_nothing

pub returns-clause-begins : goal.returns-clause-begins
returns-clause-begins c = begins_raise_by_two

pub returns-clause-elsewhere : goal.returns-clause-elsewhere
returns-clause-elsewhere c = elsewhere_raises_nothing
