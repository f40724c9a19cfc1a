use Rattle.std.proofs.Common.{ap, sym, ◌∙◌}
use Rattle.std.specs.Prelude.{Option}
use Rattle.graph_nodes.specs.Mounted.{Mounted}
use Rattle.graph_nodes.proofs.Together.{not_there}
use Rattle.graph_nodes.specs.Seen.{SeenGraph, connection_by, connection_in}
use Rattle.graph_nodes.proofs.Seen.{graph_seen, same_connection}
use Rattle.graph_nodes.proofs.graphs.Graphs.connection.Goals as goal

pub returns-in-Some-clause-absent : goal.returns-in-Some-clause-absent
returns-in-Some-clause-absent c = λ off. not_there _ c.self.inside.live c.args.number c.in-Some.graph.now c.args.self.now.numbers (ap (λ (m : Mounted). m.numbers) c.self.view_is) (sym c.in-Some.ensures.value) off

pub returns-in-Some-clause-connection : goal.returns-in-Some-clause-connection
returns-in-Some-clause-connection c = c.connection.ensures ∙ sym (same_connection c.in-Some.graph.now.cx.clients c.args.brick)
    ∙ ap (λ (o : Option SeenGraph). connection_by o c.args.brick) (sym (graph_seen c.self.inside.live c.args.number _ c.in-Some.ensures.value)) ∙ ap (λ (m : Mounted). connection_in m.graphs c.args.number c.args.brick) c.self.view_is

pub returns-in-None-clause-connection : goal.returns-in-None-clause-connection
returns-in-None-clause-connection c =
    ap (λ (o : Option SeenGraph). connection_by o c.args.brick) (sym (graph_seen c.self.inside.live c.args.number _ c.in-None.ensures.value)) ∙ ap (λ (m : Mounted). connection_in m.graphs c.args.number c.args.brick) c.self.view_is
