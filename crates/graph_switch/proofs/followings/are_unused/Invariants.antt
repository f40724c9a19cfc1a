use Rattle.std.proofs.Common.{◌≡◌, drop}
use Rattle.graph_switch.specs.Switch.{are_unused}
use Rattle.graph_switch.proofs.followings.are_unused.Given as goal

abbrev pub invariant-loop-plan : goal.invariant-loop-plan
invariant-loop-plan l = are_unused (drop l.plan-index l.plans) l.sets ≡ are_unused l.plans l.sets
