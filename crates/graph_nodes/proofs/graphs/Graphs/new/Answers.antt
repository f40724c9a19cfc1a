use Rattle.graph_nodes.proofs.Together.{none_live}
use Rattle.graph_nodes.proofs.graphs.Graphs.new.Goals as goal

pub invariant_of-result : goal.invariant_of-result
invariant_of-result c = none_live c.new.result c.new-2.result c.new.ensures.empty c.new-2.ensures.frames c.new-2.ensures.parked
