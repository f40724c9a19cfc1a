use Rattle.std.proofs.Common.{length}
use Rattle.graph_nodes.proofs.Parking.{Parking}
use Rattle.graph_nodes.proofs.parked.park.Given as goal

abbrev pub invariant-loop-frame : goal.invariant-loop-frame
invariant-loop-frame l = Parking l.fn.waiting l.fn.parked.keys l.waiting l.parked.keys

abbrev pub decreases-loop-frame : goal.decreases-loop-frame
decreases-loop-frame l = length l.waiting
