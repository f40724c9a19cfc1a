use Rattle.graph_nodes.proofs.Giving.{with_some}
use Rattle.graph_nodes.proofs.graph.Graph.brick_of.Goals as goal

pub returns-then-is_ours-clause-ours : goal.returns-then-is_ours-clause-ours
returns-then-is_ours-clause-ours c = with_some _ c.client_of.result (c.is_ours.ensures.ours.0 c.if-is_ours.true)
