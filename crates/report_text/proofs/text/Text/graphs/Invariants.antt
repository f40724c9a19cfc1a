use Rattle.std.proofs.Common.{◌≡◌, ◌++◌, take, flat_map}
use Rattle.report_text.specs.ReportText.{graph_line}
use Rattle.report_text.proofs.text.Text.graphs.Given as goal

abbrev pub invariant-loop-graph : goal.invariant-loop-graph
invariant-loop-graph l = l.self ≡ l.initial.self ++ flat_map graph_line (take l.graph-index l.graphs)
