use Rattle.graph_nodes.proofs.Giving.{item_next, item_last}
use Rattle.graph_nodes.proofs.running.take_all.Goals as goal

pub loop-item-preserved : goal.loop-item-preserved
loop-item-preserved g c = item_next _ _ c.in-Some.item _ _ _ c.in-Some.ensures c.in_ok-push.ensures.ok c.loop-item.invariant

pub returns-clause-items : goal.returns-clause-items
returns-clause-items g c = item_last _ _ _ c.in_default.ensures.0 c.loop-item.invariant
