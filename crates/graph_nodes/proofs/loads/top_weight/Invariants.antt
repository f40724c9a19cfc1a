use Rattle.std.proofs.Common.{◌≡◌, ◌≤◌, length}
use Rattle.graph_nodes.proofs.PlanLoads.{AreFirst}
use Rattle.graph_nodes.proofs.loads.top_weight.Given as goal

abbrev pub invariant-loop-at : goal.invariant-loop-at
invariant-loop-at l = (length l.loads ≡ 1024) × (length l.plan.nodes ≤ 1024 → AreFirst l.plan.nodes l.plan.sets l.at l.loads l.top)
