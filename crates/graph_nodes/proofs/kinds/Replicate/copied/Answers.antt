use Rattle.graph_nodes.proofs.JobTurns.{recorded_turn}
use Rattle.graph_nodes.proofs.kinds.Replicate.copied.Goals as goal

pub returns-in-Ok : goal.returns-in-Ok
returns-in-Ok c = recorded_turn c.args.self.now.plan c.args.requests c.args.cx.now c.record.new.cx c.go_on_copied.new.cx c.args.txn c.args.done c.go_on_copied.result c.in-Ok.ensures c.go_on_copied.ensures
