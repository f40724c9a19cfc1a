use Rattle.graph_nodes.specs.Caching.{without_pages}
use Rattle.graph_nodes.proofs.Caching.{promises_at}
use Rattle.graph_nodes.proofs.graph.Graph.drop_pages.Goals as goal

pub returns-clause-promises : goal.returns-clause-promises
returns-clause-promises c = promises_at (without_pages c.args.gfid) c.args.self.now.nodes.items c.drop_pages_at.new.nodes.items c.in-Some.at c.drop_pages_at.ensures
