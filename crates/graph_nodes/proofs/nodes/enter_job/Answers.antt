use Rattle.std.proofs.lemmas.Result.{IfOk-weaker}
use Rattle.graph_nodes.proofs.SetLaw.{begun}
use Rattle.graph_nodes.proofs.nodes.enter_job.Goals as goal

pub returns-clause-lawful : goal.returns-clause-lawful
returns-clause-lawful c = IfOk-weaker c.enter.result _ _ (λ step h sets weight breadth. begun sets weight breadth c.args.node.now c.transactions_go_on.ensures.begin c.copies_go_on.ensures.begin c.args.cx.now c.enter.new.cx c.args.entry c.args.down step h) c.enter.ensures
