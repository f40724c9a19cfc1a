use Rattle.std.proofs.Common.{◌≡◌, drop}
use Rattle.change_audit.specs.CallGraphs.{set_for}
use Rattle.change_audit.proofs.call_graphs.set_among.Given as goal

abbrev pub invariant-loop-set : goal.invariant-loop-set
invariant-loop-set l = set_for (drop l.set-index l.plan.sets) l.brick ≡ set_for l.plan.sets l.brick
