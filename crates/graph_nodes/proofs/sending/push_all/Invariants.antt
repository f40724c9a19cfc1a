use Rattle.std.proofs.Common.{◌≡◌, ◌++◌, map, length}
use Rattle.graph_nodes.proofs.sending.push_all.Given as goal

abbrev pub invariant-loop-message : goal.invariant-loop-message
invariant-loop-message l = l.sends ++ map (λ m. (l.brick, m)) l.rest ≡ l.fn.sends ++ map (λ m. (l.brick, m)) l.fn.messages

abbrev pub decreases-loop-message : goal.decreases-loop-message
decreases-loop-message l = length l.rest
