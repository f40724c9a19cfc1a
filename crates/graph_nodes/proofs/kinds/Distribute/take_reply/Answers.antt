use Rattle.std.proofs.lemmas.Result.{IfOk-weaker}
use Rattle.graph_nodes.proofs.FopSteps.{reply_taken}
use Rattle.graph_nodes.proofs.kinds.Distribute.take_reply.Goals as goal

pub returns-in-Ok-clause-step : goal.returns-in-Ok-clause-step
returns-in-Ok-clause-step c = IfOk-weaker c.go.result _ _ (λ step gives. reply_taken c.args.self.now c.answer.new.self c.args.cx.now c.go.new.cx c.args.state c.answer.new.state c.args.reply c.in-Ok.next step gives
    c.in-Ok.ensures.state c.in-Ok.ensures.course c.in-Ok.ensures.learnt c.in-Ok.ensures.asked c.in-Ok.ensures.kept) c.go.ensures
