use Rattle.txn_laws.proofs.Splits.{begins_do_not_split, answers_split, copies_do_not_split}
use Rattle.txn_laws.proofs.laws.splits_have_quorums.Goals as goal

pub returns-clause-begin : goal.returns-clause-begin
returns-clause-begin c = begins_do_not_split

pub returns-clause-answers : goal.returns-clause-answers
returns-clause-answers c = answers_split

pub returns-clause-copies : goal.returns-clause-copies
returns-clause-copies c = copies_do_not_split
