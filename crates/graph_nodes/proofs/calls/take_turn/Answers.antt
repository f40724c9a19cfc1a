use Rattle.std.proofs.Common.{refl, ap, arith, ◌∙◌}
use Rattle.std.proofs.Math.Seq.{map-set_same}
use Rattle.std.proofs.lemmas.Option.{slice_get_read}
use Rattle.std.specs.Prelude.{length}
use Rattle.graph_nodes.specs.Promises.{node_promise}
use Rattle.graph_nodes.proofs.Giving.{turn_there, no_turn}
use Rattle.graph_nodes.proofs.calls.take_turn.Goals as goal

pub returns-clause-promises : goal.returns-clause-promises
returns-clause-promises c = map-set_same node_promise c.args.nodes.now.items c.args.task c.take_turn_in.new.node c.index_mut.result.now (c.take_turn_in.ensures.promise ∙ ap node_promise c.index_mut.ensures.value)

pub returns-clause-turn : goal.returns-clause-turn
returns-clause-turn c = turn_there c.args.nodes.now.items c.args.task c.index_mut.result.now c.take_turn_in.new.node c.args.cx.now c.take_turn_in.new.cx c.take_turn_in.result
    (slice_get_read c.args.nodes.now.items (length c.args.nodes.now.items) c.args.task c.index_mut.result.now refl (omega (arith, c.if-task-len.false, c.len.ensures)) c.index_mut.ensures.value) c.take_turn_in.ensures.turn

pub returns-then-task-len-clause-turn : goal.returns-then-task-len-clause-turn
returns-then-task-len-clause-turn c = no_turn c.args.nodes.now.items c.args.task (omega (arith, c.if-task-len.true, c.len.ensures))
