use Rattle.graph_nodes.proofs.Living.{one_more_ours}
use Rattle.graph_nodes.proofs.bailing.push_gone.Goals as goal

pub returns-then-ours-clause-ours : goal.returns-then-ours-clause-ours
returns-then-ours-clause-ours c = λ all. one_more_ours c.args.board.now.stack c.args.board.now.graph c.args.winds.now.items _ _ all (c.is_ours-ours.ensures.ours.0 c.if-ours.true) c.in_ok-push.ensures.items
