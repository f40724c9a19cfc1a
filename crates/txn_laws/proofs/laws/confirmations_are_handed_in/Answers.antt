use Rattle.txn_laws.proofs.Known.{begins_confirm, answers_confirm, copies_confirm, answers_take, copies_take}
use Rattle.txn_laws.proofs.laws.confirmations_are_handed_in.Goals as goal

pub returns-clause-begin : goal.returns-clause-begin
returns-clause-begin c = begins_confirm

pub returns-clause-answers : goal.returns-clause-answers
returns-clause-answers c = answers_confirm

pub returns-clause-copies : goal.returns-clause-copies
returns-clause-copies c = copies_confirm

pub returns-clause-takes : goal.returns-clause-takes
returns-clause-takes c = answers_take

pub returns-clause-keeps : goal.returns-clause-keeps
returns-clause-keeps c = copies_take
