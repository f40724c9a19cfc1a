use Rattle.std.specs.Prelude.{ℕ, List}
use Rattle.graph_nodes.proofs.Giving.{map_next, map_last}
use Rattle.graph_nodes.proofs.sending.push_all.Goals as goal

pub loop-message-preserved : goal.loop-message-preserved
loop-message-preserved c = map_next (λ (m : List ℕ). (c.args.brick, m)) _ _ c.in-Some.message _ _ _ c.in-Some.ensures c.in_ok-push.ensures.ok c.loop-message.invariant

pub returns : goal.returns
returns c = map_last (λ (m : List ℕ). (c.args.brick, m)) _ _ _ c.in_default.ensures.0 c.loop-message.invariant
