use Rattle.afr_transaction.proofs.EachTurn.{begin_sends, answer_sends, copy_sends}
use Rattle.afr_transaction.proofs.Marked.{ops_follow}
use Rattle.afr_transaction.proofs.Posts.{posts_follow}
use Rattle.afr_transaction.proofs.laws.requests_are_of_phases.Goals as goal

pub returns-clause-begin : goal.returns-clause-begin
returns-clause-begin c = begin_sends

pub returns-clause-answers : goal.returns-clause-answers
returns-clause-answers c = answer_sends

pub returns-clause-copies : goal.returns-clause-copies
returns-clause-copies c = copy_sends

pub returns-clause-ops : goal.returns-clause-ops
returns-clause-ops c = ops_follow

pub returns-clause-posts : goal.returns-clause-posts
returns-clause-posts c = posts_follow
