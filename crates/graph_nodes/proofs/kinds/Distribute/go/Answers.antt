use Rattle.std.proofs.Common.{refl}
use Rattle.std.proofs.lemmas.Result.{IfOk-weaker}
use Rattle.graph_nodes.proofs.kinds.Distribute.go.Goals as goal

pub returns-in-Jobs : goal.returns-in-Jobs
returns-in-Jobs c = rw c.in-Jobs.is (IfOk-weaker c.ask.result _ _ (λ step move. record { move = move; cx = refl }) c.ask.ensures)

pub returns-in-Hold : goal.returns-in-Hold
returns-in-Hold c = rw c.in-Hold.is (IfOk-weaker c.hold.result _ _ (λ step h. record { move = h.0; cx = h.1 }) c.hold.ensures)
