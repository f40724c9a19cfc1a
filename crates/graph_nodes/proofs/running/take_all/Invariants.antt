use Rattle.std.proofs.Common.{◌≡◌, ◌++◌, length}
use Rattle.graph_nodes.proofs.running.take_all.Given as goal

abbrev pub invariant-loop-item : goal.invariant-loop-item
invariant-loop-item g l = l.items ++ l.queue ≡ l.fn.items ++ l.fn.queue

abbrev pub decreases-loop-item : goal.decreases-loop-item
decreases-loop-item g l = length l.queue
