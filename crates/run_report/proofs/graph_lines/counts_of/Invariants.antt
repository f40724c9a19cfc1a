use Rattle.std.proofs.Common.{take}
use Rattle.run_report.specs.Counting.{AreCountsOf}
use Rattle.run_report.proofs.graph_lines.counts_of.Given as goal

abbrev pub invariant-loop-k : goal.invariant-loop-k
invariant-loop-k l = AreCountsOf l.graphs (take l.k l.winds) l.counts.items
