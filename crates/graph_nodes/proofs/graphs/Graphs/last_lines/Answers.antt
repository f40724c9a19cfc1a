use Rattle.std.proofs.Common.{ap, ◌∙◌}
use Rattle.graph_nodes.specs.Mounted.{Mounted}
use Rattle.graph_nodes.proofs.Together.{spent_all}
use Rattle.graph_nodes.proofs.graphs.Graphs.last_lines.Goals as goal

pub invariant_of-self : goal.invariant_of-self
invariant_of-self c = spent_all c.self.inside.is_spent _ (ap (λ (m : Mounted). m.spent) c.self.view_is ∙ c.requires)
