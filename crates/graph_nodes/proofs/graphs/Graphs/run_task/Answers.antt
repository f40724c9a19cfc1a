use Rattle.std.proofs.Common.{ap, subst, ◌∙◌}
use Rattle.graph_nodes.specs.Mounted.{Mounted, has}
use Rattle.graph_nodes.specs.Live.{AllLive}
use Rattle.graph_nodes.proofs.Together.{usable, has_is}
use Rattle.graph_nodes.specs.declared.moved.Moved.{Moved}
use Rattle.graph_nodes.specs.Among.{runs_task}
use Rattle.graph_nodes.proofs.Among.{seems_to_give}
use Rattle.graph_nodes.specs.Seen.{Works, same_clients, seen_in}
use Rattle.graph_nodes.proofs.graphs.Graphs.run_task.Goals as goal

pub run_task_in-requires : goal.run_task_in-requires
run_task_in-requires c = record { live = usable c.self.inside.is_spent (AllLive c.self.inside.live c.self.inside.mount) c.self.invariant c.if-self.false }

pub returns-clause-absent : goal.returns-clause-absent
returns-clause-absent c = λ off. c.in_ok-moved.ensures.absent (has_is c.self.inside.live c.args.number ∙ ap (λ (m : Mounted). has m.numbers c.args.number) c.self.view_is ∙ off)

pub returns-clause-gives : goal.returns-clause-gives
returns-clause-gives c = seems_to_give (λ (m : Moved). m) (λ _. runs_task c.args.task) c.args.number c.args.self.now c.self.inside.live c.run_task_in.new.live c.self.inside.mount c.run_task_in.new.mount c.self.inside.is_spent c.in_ok-moved.moved c.self.view_is c.if-self.false
    (usable c.self.inside.is_spent (AllLive c.self.inside.live c.self.inside.mount) c.self.invariant c.if-self.false) c.in_ok-moved.ensures.gives

pub returns-clause-graphs : goal.returns-clause-graphs
returns-clause-graphs c = subst (λ (m : Mounted). Works same_clients c.args.number m.graphs (seen_in c.run_task_in.new.live.entries)) c.self.view_is c.in_ok-moved.ensures.graphs
