use Rattle.std.proofs.Common.{ap, sym, ◌∙◌, arith, ℕ, ◌-◌, List, slice_get}
use Rattle.graph_nodes.specs.Mounted.{Mounted}
use Rattle.graph_nodes.specs.Ready.{tasks_in}
use Rattle.graph_nodes.specs.declared.graph.Graph.{Graph}
use Rattle.graph_nodes.proofs.Ready.{task_found, task_past}
use Rattle.graph_nodes.proofs.graphs.Graphs.task_at.Goals as goal

pub returns-in-Some-ready_at : goal.returns-in-Some-ready_at
returns-in-Some-ready_at c =
    let so_far = ap (λ (es : List (ℕ × Graph)). slice_get (tasks_in es) c.loop-number.left) (sym c.in-Some.ensures.steps) ∙ c.loop-number.invariant.0 in
    let all = ap (λ (es : List (ℕ × Graph)). slice_get (tasks_in es) c.args.at) (c.into_iter-number-iterator.ensures.into_iter_gives ∙ c.iter-number-items.ensures.rest) in
    let seen = ap (λ (m : Mounted). slice_get m.tasks c.args.at) c.self.view_is in
    task_found c.in-Some.number.now c.in-Some.graph.now c.next.new.self c.into_iter-number-iterator.result c.args.at c.loop-number.left c.in-Some-ready_at.task so_far (sym c.in-Some-ready_at.ensures) ∙ all ∙ seen

pub loop-number-preserved : goal.loop-number-preserved
loop-number-preserved c =
    let so_far = ap (λ (es : List (ℕ × Graph)). slice_get (tasks_in es) c.loop-number.left) (sym c.in-Some.ensures.steps) ∙ c.loop-number.invariant.0 in
    let left = c.saturating_sub-left.ensures ∙ ap (λ (x : ℕ). c.loop-number.left - x) c.ready_len.ensures in
    let next = ap (slice_get (tasks_in c.next.new.self)) left ∙ task_past c.in-Some.number.now c.in-Some.graph.now c.next.new.self c.into_iter-number-iterator.result c.args.at c.loop-number.left c.loop-number.invariant.1 so_far (sym c.in-None-ready_at.ensures) in
    (next, omega (arith, c.saturating_sub-left.ensures, c.loop-number.invariant.1))
