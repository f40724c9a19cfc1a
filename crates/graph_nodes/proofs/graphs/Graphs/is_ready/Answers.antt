use Rattle.std.proofs.Common.{ap, sym, ◌∙◌}
use Rattle.graph_nodes.specs.Mounted.{Mounted}
use Rattle.graph_nodes.specs.Ready.{has_task}
use Rattle.graph_nodes.proofs.Ready.{no_graph, ready_in}
use Rattle.graph_nodes.proofs.Together.{not_there}
use Rattle.graph_nodes.proofs.graphs.Graphs.is_ready.Goals as goal

pub returns-in-Some-clause-absent : goal.returns-in-Some-clause-absent
returns-in-Some-clause-absent c = λ off. not_there _ c.self.inside.live c.args.number c.in-Some.graph.now c.args.self.now.numbers (ap (λ (m : Mounted). m.numbers) c.self.view_is) (sym c.in-Some.ensures.value) off

pub returns-in-Some-clause-task : goal.returns-in-Some-clause-task
returns-in-Some-clause-task c =
    c.is_ready.ensures
    ∙ sym (ready_in c.args.number c.args.task c.self.inside.live.entries c.in-Some.graph.now c.len.ensures.ordered (sym c.in-Some.ensures.value))
    ∙ ap (λ (m : Mounted). has_task m.tasks c.args.number c.args.task) c.self.view_is

pub returns-in-None-clause-task : goal.returns-in-None-clause-task
returns-in-None-clause-task c =
    sym (no_graph c.args.number c.args.task c.self.inside.live.entries (sym c.in-None.ensures.value))
    ∙ ap (λ (m : Mounted). has_task m.tasks c.args.number c.args.task) c.self.view_is
