use Rattle.std.proofs.Common.{◌≡◌, drop}
use Rattle.std.specs.List.{list_any}
use Rattle.mount_log.specs.Connects.{has_brick}
use Rattle.line_audit.proofs.due.plan_uses.Given as goal

abbrev pub invariant-loop-set : goal.invariant-loop-set
invariant-loop-set l = list_any (has_brick l.brick) (drop l.set-index l.plan.sets) ≡ list_any (has_brick l.brick) l.plan.sets
