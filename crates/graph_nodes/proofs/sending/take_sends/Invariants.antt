use Rattle.std.proofs.Common.{◌≡◌, ◌++◌, length}
use Rattle.std.specs.List.{flat_map}
use Rattle.graph_nodes.specs.Calls.{sends_in}
use Rattle.graph_nodes.proofs.sending.take_sends.Given as goal

abbrev pub invariant-loop-sent : goal.invariant-loop-sent
invariant-loop-sent l = (l.clients ≡ l.fn.clients) × (l.sends ++ flat_map (sends_in l.nodes l.fn.clients) l.handed ≡ l.fn.sends ++ flat_map (sends_in l.nodes l.fn.clients) l.fn.handed)

abbrev pub decreases-loop-sent : goal.decreases-loop-sent
decreases-loop-sent l = length l.handed
