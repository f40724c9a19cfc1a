use Rattle.frame_stack.specs.Stack.{frame_at}
use Rattle.graph_nodes.proofs.Giving.{home_is}
use Rattle.graph_nodes.proofs.parked.is_home.Goals as goal

pub returns-clause-is : goal.returns-clause-is
returns-clause-is c = home_is c.args.board.now.graph (frame_at c.args.board.now.stack c.args.frame) c.has_frame.result c.has_frame.ensures
