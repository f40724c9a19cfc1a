use Rattle.std.proofs.Common.{◌≡◌, drop}
use Rattle.hub_tables.specs.PlanBricks.{has_queue}
use Rattle.hub_tables.proofs.plan_bricks.has_queue.Given as goal

abbrev pub invariant-loop-node : goal.invariant-loop-node
invariant-loop-node l = has_queue (drop l.node-index l.plan.nodes) ≡ has_queue l.plan.nodes
