use Rattle.change_audit.proofs.Graphs.{graph_is}
use Rattle.read_audit.proofs.readings.call_graph.Goals as goal

pub returns : goal.returns
returns c = graph_is c.args.run.now.script.now c.args.run.now.log.now c.args.run.now.graphs.now c.args.run.now.graphs_are c.args.call c.in_ok-graph.graph c.in_ok-graph.ensures.found
