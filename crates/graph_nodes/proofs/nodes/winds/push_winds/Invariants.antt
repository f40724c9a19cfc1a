use Rattle.std.proofs.Common.{◌≡◌, ◌++◌, map, length}
use Rattle.graph_nodes.specs.Replicate.{wind_of, AreEncoded}
use Rattle.graph_nodes.proofs.nodes.winds.push_winds.Given as goal

abbrev pub decreases-loop-next : goal.decreases-loop-next
decreases-loop-next l = length l.rest

abbrev pub invariant-loop-next : goal.invariant-loop-next
invariant-loop-next l = (l.winds.items ++ map (wind_of l.locks) l.rest ≡ l.fn.winds.items ++ map (wind_of l.locks) l.fn.rest) × AreEncoded l.rest
