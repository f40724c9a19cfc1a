use Rattle.std.proofs.Common.{◌≡◌, ap, sym, ◌∙◌, arith, min, ◌+◌, List}
use Rattle.graph_nodes.specs.Mounted.{Mounted}
use Rattle.graph_nodes.specs.declared.graph.Graph.{Graph}
use Rattle.graph_nodes.proofs.Ready.{many_in, all_counted}
use Rattle.graph_nodes.proofs.graphs.Graphs.tasks_len.Goals as goal

pub returns : goal.returns
returns c =
    let tasks = sym (ap (λ (m : Mounted). m.tasks) c.self.view_is) in
    let ended = ap (λ (gs : List Graph). min (c.loop-graph.count + many_in gs) 4294967295) (sym c.in-None.ensures.steps.0) in
    let all = ap (λ (gs : List Graph). min (many_in gs) 4294967295) (c.into_iter-graph-iterator.ensures.into_iter_gives ∙ c.values-graph-items.ensures.rest) in
    all_counted c.self.inside.live.entries c.args.self.now.tasks c.loop-graph.count tasks c.loop-graph.invariant.1 (ended ∙ c.loop-graph.invariant.0 ∙ all)
