use Rattle.std.proofs.Common.{arith}
use Rattle.graph_nodes.proofs.Plans.{needs_read}
use Rattle.graph_nodes.proofs.tree.Growing.push_all.Goals as goal

pub kind_of-requires : goal.kind_of-requires
kind_of-requires c = needs_read c.args.plan.now c.as_slice-planned.result.now c.as_slice-sets.result.now c.loop-at.at c.index-planned-at.result c.requires.plan c.as_slice-planned.ensures c.as_slice-sets.ensures (omega (arith, c.loop-at-test.true)) c.index-planned-at.is
