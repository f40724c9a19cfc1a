use Rattle.graph_nodes.proofs.kinds.BrickClient.enter.Goals as goal

pub returns-in-Request : goal.returns-in-Request
returns-in-Request c = rw c.in-Request.is c.enter_request.ensures
