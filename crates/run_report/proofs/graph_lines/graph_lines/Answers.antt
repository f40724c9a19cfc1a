use Rattle.std.proofs.Common.{◌≡◌, sym, ap, subst, ◌∙◌, arith, get_or}
use Rattle.std.specs.Prelude.{◌<◌, ◌+◌, ◌++◌, length, drop}
use Rattle.run_report.specs.Reports.{shown_graphs}
use Rattle.run_report.proofs.Graphs.{few_winds, next_line}
use Rattle.run_report.proofs.graph_lines.graph_lines.Goals as goal

pub graph_line-requires : goal.graph_line-requires
graph_line-requires c =
    few_winds c.args.winds.now _ c.in_ok-counts.counts.items c.loop-at.at c.index.result.now c.requires.winds c.in_ok-counts.ensures
    (subst (λ n. c.loop-at.at < n) (sym c.in_ok-counts.ensures.long) c.loop-at-test.true) c.index.ensures

pub loop-at-preserved : goal.loop-at-preserved
loop-at-preserved c =
    let g = c.in_ok-graph.ensures in let p = c.in_ok-push.ensures.ok in
    subst (λ l. l ++ shown_graphs c.args.script.now c.args.winds.now (c.loop-at.at + 1 + 1) (drop (c.loop-at.at + 1) c.args.volfiles.now) ≡ shown_graphs c.args.script.now c.args.winds.now 1 c.args.volfiles.now) (sym p)
    (next_line c.args.script.now c.args.winds.now c.args.volfiles.now c.in_ok-counts.counts.items c.loop-at.at c.index.result.now c.loop-at.graphs c.in_ok-graph.graph _ c.in_ok-counts.ensures c.loop-at-test.true g c.index.ensures c.loop-at.invariant)
