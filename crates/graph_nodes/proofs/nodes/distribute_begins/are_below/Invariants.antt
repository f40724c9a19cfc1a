-- The rest of the descriptors gives the answer of all.
use Rattle.std.proofs.Common.{◌≡◌, drop}
use Rattle.graph_nodes.specs.Distribute.{are_below}
use Rattle.graph_nodes.proofs.nodes.distribute_begins.are_below.Given as goal

abbrev pub invariant-loop-open_fd : goal.invariant-loop-open_fd
invariant-loop-open_fd l = are_below l.sets (drop l.open_fd-index l.fds) ≡ are_below l.sets l.fds
