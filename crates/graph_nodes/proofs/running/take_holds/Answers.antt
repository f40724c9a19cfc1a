use Rattle.graph_nodes.specs.Calls.{hold_of}
use Rattle.graph_nodes.proofs.Giving.{map_next, map_last}
use Rattle.graph_nodes.proofs.running.take_holds.Goals as goal

pub loop-wait-preserved : goal.loop-wait-preserved
loop-wait-preserved c = map_next hold_of _ _ c.in-Some.wait _ _ _ c.in-Some.ensures c.in_ok-push.ensures.ok c.loop-wait.invariant

pub returns-clause-holds : goal.returns-clause-holds
returns-clause-holds c = map_last hold_of _ _ _ c.in_default.ensures.0 c.loop-wait.invariant
