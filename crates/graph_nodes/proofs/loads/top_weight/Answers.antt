use Rattle.std.proofs.Common.{arith}
use Rattle.graph_nodes.proofs.PlanLoads.{next_read}
use Rattle.graph_nodes.proofs.loads.top_weight.Goals as goal

pub loop-at-preserved : goal.loop-at-preserved
loop-at-preserved c = next_read c.args.plan.now c.as_slice-nodes.result.now c.as_slice.result.now c.loop-at.at c.index-nodes-at.result c.loop-at.loads _ c.loop-at.top _
    c.as_slice-nodes.ensures c.as_slice.ensures (omega (arith, c.loop-at-test.true)) c.index-nodes-at.is c.planned_load-top.ensures c.keep_load.ensures c.loop-at.invariant
