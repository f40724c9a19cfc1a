use Rattle.frame_stack.specs.Stack.{opener_of}
use Rattle.graph_nodes.proofs.Giving.{ours_is}
use Rattle.graph_nodes.proofs.owning.is_ours.Goals as goal

pub returns-clause-is : goal.returns-clause-is
returns-clause-is c = ours_is c.args.board.now.graph (opener_of c.args.board.now.stack c.args.wind) c.owns.result c.owns.ensures
