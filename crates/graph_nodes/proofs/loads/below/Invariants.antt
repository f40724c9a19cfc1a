use Rattle.std.proofs.Common.{◌≡◌, drop}
use Rattle.graph_nodes.specs.PlanCosts.{no_load, greatest}
use Rattle.graph_nodes.proofs.loads.below.Given as goal

abbrev pub invariant-loop-child : goal.invariant-loop-child
invariant-loop-child l = greatest (drop l.child-index l.children) l.most l.loads ≡ greatest l.children no_load l.loads
