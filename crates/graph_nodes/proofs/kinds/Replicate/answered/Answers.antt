use Rattle.std.proofs.Common.{length}
use Rattle.graph_nodes.proofs.AskedSlots.{asking_of}
use Rattle.graph_nodes.proofs.kinds.Replicate.answered.Goals as goal

pub answer-need-requires-clause-asking : goal.answer-need-requires-clause-asking
answer-need-requires-clause-asking c = asking_of (length c.args.self.now.plan.bricks) c.args.txn c.requires.way
