use Rattle.std.proofs.lemmas.Result.{IfOk-weaker}
use Rattle.graph_nodes.proofs.FopLaw.{fop_resumes}
use Rattle.graph_nodes.proofs.nodes.resume_fop.Goals as goal

pub returns-clause-lawful : goal.returns-clause-lawful
returns-clause-lawful c = IfOk-weaker c.take_fop.result _ _ (λ step h weight breadth. fop_resumes weight breadth c.args.node.now c.args.cx.now c.take_fop.new.cx c.args.slot c.args.reply c.take_fop.new.node step c.args.local c.requires.asked h) c.take_fop.ensures.step
