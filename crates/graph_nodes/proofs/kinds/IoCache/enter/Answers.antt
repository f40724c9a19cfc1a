use Rattle.std.proofs.Common.{refl}
use Rattle.std.proofs.lemmas.Result.{IfOk-weaker}
use Rattle.graph_nodes.proofs.kinds.IoCache.enter.Goals as goal

pub returns-in-Job : goal.returns-in-Job
returns-in-Job c = rw c.in-Job.is (IfOk-weaker c.one.result _ _ (λ step move. record { step_is = move; node = refl }) c.one.ensures)

pub returns-in-Request : goal.returns-in-Request
returns-in-Request c = rw c.in-Request.is (IfOk-weaker c.one-in-Request.result _ _ (λ step move. record { step_is = move; node = refl }) c.one-in-Request.ensures)
