use Rattle.frame_trees.proofs.Staying.{ended_tree, both_ours}
use Rattle.frame_trees.proofs.tree.bail_ours.Goals as goal

pub bail-requires : goal.bail-requires
bail-requires c = record { ours = both_ours c.args.board.now.stack c.args.board.now.graph c.in_ok-winds.winds.items c.args.first c.args.second c.in_ok-winds.ensures (c.owns_both-ours.ensures c.if-ours.true) }

pub returns-then-ours : goal.returns-then-ours
returns-then-ours c = λ nodes wiring is. ended_tree nodes wiring c.args.board.now c.bail.new.self is c.in_ok-bail.ensures.leads.same c.in_ok-bail.ensures.sound c.in_ok-bail.ensures.held
