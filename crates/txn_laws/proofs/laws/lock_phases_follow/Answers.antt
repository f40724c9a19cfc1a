use Rattle.txn_laws.proofs.Known.{begins_follow, answers_follow, copies_follow, answers_begin, copies_begin}
use Rattle.txn_laws.proofs.laws.lock_phases_follow.Goals as goal

pub returns-clause-begin : goal.returns-clause-begin
returns-clause-begin c = begins_follow

pub returns-clause-answers : goal.returns-clause-answers
returns-clause-answers c = answers_follow

pub returns-clause-copies : goal.returns-clause-copies
returns-clause-copies c = copies_follow

pub returns-clause-begins : goal.returns-clause-begins
returns-clause-begins c = answers_begin

pub returns-clause-begins_after_copies : goal.returns-clause-begins_after_copies
returns-clause-begins_after_copies c = copies_begin
