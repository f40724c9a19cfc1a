use Rattle.txn_laws.proofs.Quorums.{posts_in_turns, settles_in_turns, posts_stay, settles_stay, at_quorum}
use Rattle.txn_laws.proofs.laws.quorums_decide.Goals as goal

pub returns-clause-posts : goal.returns-clause-posts
returns-clause-posts c = posts_in_turns

pub returns-clause-settles : goal.returns-clause-settles
returns-clause-settles c = settles_in_turns

pub returns-clause-posts_stay : goal.returns-clause-posts_stay
returns-clause-posts_stay c = posts_stay

pub returns-clause-settles_stay : goal.returns-clause-settles_stay
returns-clause-settles_stay c = settles_stay

pub returns-clause-parts : goal.returns-clause-parts
returns-clause-parts c = at_quorum
