use Rattle.graph_nodes.proofs.Giving.{turn_taken}
use Rattle.graph_nodes.proofs.calls.take_turn_in.Goals as goal

pub returns-in-IoThreads-clause-turn : goal.returns-in-IoThreads-clause-turn
returns-in-IoThreads-clause-turn c = turn_taken c.args.node.now c.in-IoThreads.queue c.take.new.self c.args.cx.now c.take.new.cx c.take.result c.in-IoThreads.is c.take.ensures.frame c.take.ensures.node c.take.ensures.cx
