use Rattle.std.proofs.lemmas.Result.{IfOk-weaker}
use Rattle.graph_nodes.proofs.SetLaw.{job_resumes}
use Rattle.graph_nodes.proofs.nodes.resume_job.Goals as goal

pub returns-clause-lawful : goal.returns-clause-lawful
returns-clause-lawful c = IfOk-weaker c.take_job.result _ _ (λ step h sets weight breadth. job_resumes sets weight breadth c.args.node.now c.transactions_go_on.ensures.answers c.transactions_go_on.ensures.copies c.copies_go_on.ensures.begin c.copies_go_on.ensures.answers c.args.cx.now c.take_job.new.cx c.args.slot c.args.reply step c.args.local c.requires.own c.requires.asked h) c.take_job.ensures
