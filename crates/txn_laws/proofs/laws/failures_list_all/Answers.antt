use Rattle.txn_laws.proofs.Listing.{answers_list, copies_list}
use Rattle.txn_laws.proofs.laws.failures_list_all.Goals as goal

pub returns-clause-answers : goal.returns-clause-answers
returns-clause-answers c = answers_list

pub returns-clause-copies : goal.returns-clause-copies
returns-clause-copies c = copies_list
