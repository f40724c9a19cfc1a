use Rattle.graph_nodes.proofs.Parking.{parking_next, parking_last}
use Rattle.graph_nodes.proofs.parked.park.Goals as goal

pub loop-frame-preserved : goal.loop-frame-preserved
loop-frame-preserved c = parking_next _ _ _ _ c.loop-frame.invariant c.in-Some.frame _ _ c.in-Some.ensures c.in_ok-insert.ensures.keys

pub returns-clause-parked : goal.returns-clause-parked
returns-clause-parked c = parking_last _ _ _ _ c.loop-frame.invariant c.in_default.ensures.0
