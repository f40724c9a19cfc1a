use Rattle.hub_calls.proofs.Connections.{has_ended}
use Rattle.hub_calls.proofs.parts.Parts.lose.Goals as goal

pub returns-clause-ended : goal.returns-clause-ended
returns-clause-ended c = has_ended c.args.graph c.args.brick c.args.self.now.graphs.nodes.graphs c.bail.new.self.graphs.nodes.graphs c.in_ok-bail.ensures.graphs
