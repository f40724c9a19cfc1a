use Rattle.std.proofs.Common.{drop}
use Rattle.hub_tables.proofs.PlanBricks.{AreBricksOf}
use Rattle.hub_tables.proofs.plan_bricks.bricks_of.Given as goal

abbrev pub invariant-loop-node : goal.invariant-loop-node
invariant-loop-node l = AreBricksOf l.plan.nodes l.bricks (drop l.node-index l.plan.nodes)
