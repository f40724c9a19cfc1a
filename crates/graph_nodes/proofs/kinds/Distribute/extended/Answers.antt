use Rattle.std.proofs.lemmas.Result.{IfOk-weaker}
use Rattle.graph_nodes.proofs.FopSteps.{hold_taken}
use Rattle.graph_nodes.proofs.FopTurns.{held_turn}
use Rattle.graph_nodes.proofs.kinds.Distribute.extended.Goals as goal

pub go-requires : goal.go-requires
go-requires c = record { turn = held_turn c.fops_keep_bounds.ensures.fops c.args.state.fop c.held.new.self c.in-Ok.next c.requires.kept c.requires.waits c.in-Ok.ensures.course c.in-Ok.ensures.asked c.in-Ok.ensures.one }

pub returns-in-Ok : goal.returns-in-Ok
returns-in-Ok c = IfOk-weaker c.go.result _ _ (λ step gives. hold_taken c.args.self.now c.args.cx.now c.go.new.cx c.args.state c.held.new.self c.in-Ok.next step gives
    c.in-Ok.ensures.course c.in-Ok.ensures.learnt c.in-Ok.ensures.asked) c.go.ensures
