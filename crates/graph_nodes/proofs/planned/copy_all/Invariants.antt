use Rattle.std.proofs.Common.{◌≡◌, take}
use Rattle.graph_nodes.proofs.planned.copy_all.Given as goal

abbrev pub invariant-loop-name : goal.invariant-loop-name
invariant-loop-name l = l.copies ≡ take l.name-index l.names
