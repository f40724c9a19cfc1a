use Rattle.afr_transaction.proofs.Replies.{begins_reply, answers_reply, copies_reply}
use Rattle.afr_transaction.proofs.laws.replies_are_within_bounds.Goals as goal

pub returns-clause-begin : goal.returns-clause-begin
returns-clause-begin c = begins_reply

pub returns-clause-answers : goal.returns-clause-answers
returns-clause-answers c = answers_reply

pub returns-clause-copies : goal.returns-clause-copies
returns-clause-copies c = copies_reply
