use Rattle.std.proofs.Common.{ap, sym, ◌∙◌}
use Rattle.graph_nodes.specs.Mounted.{Mounted}
use Rattle.graph_nodes.proofs.Together.{not_there}
use Rattle.graph_nodes.specs.Seen.{is_drained_by, is_drained_in}
use Rattle.graph_nodes.proofs.Seen.{graph_seen, drained_is}
use Rattle.graph_nodes.proofs.graphs.Graphs.is_drained.Goals as goal

pub returns-in-Some-clause-absent : goal.returns-in-Some-clause-absent
returns-in-Some-clause-absent c = λ off. not_there _ c.self.inside.live c.args.number c.in-Some.graph.now c.args.self.now.numbers (ap (λ (m : Mounted). m.numbers) c.self.view_is) (sym c.in-Some.ensures.value) off

pub returns-in-Some-clause-drained : goal.returns-in-Some-clause-drained
returns-in-Some-clause-drained c = drained_is c.in-Some.graph.now.board.frames c.is_drained.result c.is_drained.ensures
    ∙ ap is_drained_by (sym (graph_seen c.self.inside.live c.args.number _ c.in-Some.ensures.value)) ∙ ap (λ (m : Mounted). is_drained_in m.graphs c.args.number) c.self.view_is

pub returns-in-None-clause-drained : goal.returns-in-None-clause-drained
returns-in-None-clause-drained c =
    ap is_drained_by (sym (graph_seen c.self.inside.live c.args.number _ c.in-None.ensures.value)) ∙ ap (λ (m : Mounted). is_drained_in m.graphs c.args.number) c.self.view_is
