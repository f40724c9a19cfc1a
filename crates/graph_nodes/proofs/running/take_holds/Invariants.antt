use Rattle.std.proofs.Common.{◌≡◌, ◌++◌, map, length}
use Rattle.graph_nodes.specs.Calls.{hold_of}
use Rattle.graph_nodes.proofs.running.take_holds.Given as goal

abbrev pub invariant-loop-wait : goal.invariant-loop-wait
invariant-loop-wait l = l.holds ++ map hold_of l.asked ≡ l.fn.holds ++ map hold_of l.fn.asked

abbrev pub decreases-loop-wait : goal.decreases-loop-wait
decreases-loop-wait l = length l.asked
