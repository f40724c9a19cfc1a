use Rattle.std.proofs.Common.{arith}
use Rattle.graph_nodes.proofs.Plans.{name_read}
use Rattle.graph_nodes.proofs.planned.names_of.Goals as goal

pub push-requires : goal.push-requires
push-requires c = name_read c.args.sets.now c.loop-set.set-index c.set-item.result c.in_ok-name.name c.requires (omega (arith, c.loop-set-test.true)) c.set-item.is c.in_ok-name.ensures
