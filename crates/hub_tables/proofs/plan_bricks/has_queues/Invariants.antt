use Rattle.std.proofs.Common.{◌≡◌, drop}
use Rattle.hub_tables.specs.PlanBricks.{has_queues}
use Rattle.hub_tables.proofs.plan_bricks.has_queues.Given as goal

abbrev pub invariant-loop-plan : goal.invariant-loop-plan
invariant-loop-plan l = has_queues (drop l.plan-index l.plans) ≡ has_queues l.plans
