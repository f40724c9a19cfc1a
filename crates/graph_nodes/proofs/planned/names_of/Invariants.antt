use Rattle.std.proofs.Common.{◌≡◌, map, take}
use Rattle.fop_types.specs.declared.jobs.SetPlan.{SetPlan}
use Rattle.graph_nodes.proofs.planned.names_of.Given as goal

abbrev pub invariant-loop-set : goal.invariant-loop-set
invariant-loop-set l = l.names ≡ map (λ (s : SetPlan). s.name) (take l.set-index l.sets)
