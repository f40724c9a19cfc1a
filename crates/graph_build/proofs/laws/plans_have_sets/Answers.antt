use Rattle.graph_build.proofs.PlanSets.{plans_have_sets}
use Rattle.graph_build.proofs.laws.plans_have_sets.Goals as goal

pub returns : goal.returns
returns c = plans_have_sets
