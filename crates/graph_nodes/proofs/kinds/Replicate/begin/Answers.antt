use Rattle.std.proofs.lemmas.Result.{IfOk-weaker}
use Rattle.graph_nodes.proofs.JobTurns.{job_begun}
use Rattle.graph_nodes.proofs.kinds.Replicate.begin.Goals as goal

pub returns : goal.returns
returns c = IfOk-weaker c.go.result _ _ (λ step turn. job_begun c.args.self.now.plan c.args.cx.now c.go.new.cx c.args.call c.budget.result c.args.job step c.in_ok-txn.txn c.in_ok-txn.need c.standing-at.result.live c.standing-at.result.last
    c.in_ok-txn.ensures.begun c.standing-at.ensures.live c.standing-at.ensures.last c.budget.ensures turn) c.go.ensures
