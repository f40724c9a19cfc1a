use Rattle.txn_laws.proofs.Known.{begins_lose, answers_lose, copies_lose}
use Rattle.txn_laws.proofs.laws.losses_are_losses.Goals as goal

pub returns-clause-begin : goal.returns-clause-begin
returns-clause-begin c = begins_lose

pub returns-clause-answers : goal.returns-clause-answers
returns-clause-answers c = answers_lose

pub returns-clause-copies : goal.returns-clause-copies
returns-clause-copies c = copies_lose
