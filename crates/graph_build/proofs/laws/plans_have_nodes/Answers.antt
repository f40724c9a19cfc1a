use Rattle.graph_build.proofs.PlanNodes.{plans_have_nodes}
use Rattle.graph_build.proofs.laws.plans_have_nodes.Goals as goal

pub returns : goal.returns
returns c = plans_have_nodes
