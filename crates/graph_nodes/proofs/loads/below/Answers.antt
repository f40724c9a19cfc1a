use Rattle.graph_nodes.proofs.PlanLoads.{below_next}
use Rattle.graph_nodes.proofs.loads.below.Goals as goal

pub loop-child-preserved : goal.loop-child-preserved
loop-child-preserved c = below_next c.args.children.now c.args.loads.now c.loop-child.child-index _ c.loop-child.most _ _ _ c.loop-child-test.true c.load_at.ensures c.with_load-most.ensures c.loop-child.invariant
