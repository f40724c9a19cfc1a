use Rattle.std.proofs.Common.{ap, sym, ◌∙◌}
use Rattle.graph_nodes.specs.Seen.{is_drained_by}
use Rattle.graph_nodes.proofs.Seen.{graph_seen, drained_is}
use Rattle.graph_nodes.proofs.making.is_drained_in.Goals as goal

pub returns-in-Some-clause-drained : goal.returns-in-Some-clause-drained
returns-in-Some-clause-drained c = drained_is c.in-Some.graph.now.board.frames c.is_drained.result c.is_drained.ensures ∙ ap is_drained_by (sym (graph_seen c.args.live.now c.args.number _ c.in-Some.ensures.value))

pub returns-in-None-clause-drained : goal.returns-in-None-clause-drained
returns-in-None-clause-drained c = ap is_drained_by (sym (graph_seen c.args.live.now c.args.number _ c.in-None.ensures.value))
