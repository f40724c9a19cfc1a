use Rattle.std.proofs.lemmas.Result.{IfOk-weaker}
use Rattle.graph_nodes.proofs.FopLaw.{fop_goes}
use Rattle.graph_nodes.proofs.nodes.go_on_fop.Goals as goal

pub returns-clause-lawful : goal.returns-clause-lawful
returns-clause-lawful c = IfOk-weaker c.extend_fop.result _ _ (λ step h weight breadth waits. fop_goes weight breadth c.args.node.now c.args.cx.now c.extend_fop.new.cx step c.args.local waits h) c.extend_fop.ensures
