use Rattle.std.proofs.lemmas.Result.{IfOk-weaker}
use Rattle.graph_nodes.proofs.FopLaw.{begun}
use Rattle.graph_nodes.proofs.nodes.enter_fop.Goals as goal

pub returns-clause-lawful : goal.returns-clause-lawful
returns-clause-lawful c = IfOk-weaker c.enter.result _ _ (λ step h weight breadth. begun weight breadth c.args.node.now c.args.cx.now c.enter.new.cx c.args.entry c.args.down step h) c.enter.ensures
