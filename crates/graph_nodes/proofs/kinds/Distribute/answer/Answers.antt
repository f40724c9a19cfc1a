use Rattle.graph_nodes.proofs.FopTurns.{answer_turn}
use Rattle.graph_nodes.proofs.kinds.Distribute.answer.Goals as goal

pub returns-in-Ok-clause-turn : goal.returns-in-Ok-clause-turn
returns-in-Ok-clause-turn c = answer_turn c.fops_keep_bounds.ensures.fops c.args.state.now.fop c.answer.new.self c.args.set c.args.reply c.in_ok-next.next c.requires.kept c.requires.asked c.requires.bounded c.in_ok-next.ensures.course c.in_ok-next.ensures.asked c.in_ok-next.ensures.one
