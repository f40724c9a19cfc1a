use Rattle.std.proofs.Common.{◌≡◌, ◌+◌, ◌++◌, drop}
use Rattle.run_report.specs.Reports.{shown_graphs}
use Rattle.run_report.proofs.graph_lines.graph_lines.Given as goal

abbrev pub invariant-loop-at : goal.invariant-loop-at
invariant-loop-at l = l.graphs ++ shown_graphs l.script l.winds (l.at + 1) (drop l.at l.volfiles) ≡ shown_graphs l.script l.winds 1 l.volfiles
