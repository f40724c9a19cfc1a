use Rattle.graph_nodes.specs.Caching.{retired}
use Rattle.graph_nodes.proofs.Caching.{promises_at}
use Rattle.graph_nodes.proofs.graph.Graph.retire.Goals as goal

pub returns-clause-promises : goal.returns-clause-promises
returns-clause-promises c = promises_at retired c.args.self.now.nodes.items c.retire_at.new.nodes.items c.in-Some.at c.retire_at.ensures
