-- The bricks so far, with the nodes that are left, give those of all.
use Rattle.std.proofs.Common.{◌≡◌, drop}
use Rattle.graph_nodes.specs.Plans.{bricks_from, bricks_in}
use Rattle.graph_nodes.proofs.graph.bricks_of.Given as goal

abbrev pub invariant-loop-node : goal.invariant-loop-node
invariant-loop-node l = bricks_from l.count (drop l.node-index l.plan.nodes) ≡ bricks_in l.plan.nodes
