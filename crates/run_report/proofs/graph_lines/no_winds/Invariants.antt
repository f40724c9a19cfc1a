use Rattle.std.proofs.Common.{[]}
use Rattle.run_report.specs.Counting.{AreCountsOf}
use Rattle.run_report.proofs.graph_lines.no_winds.Given as goal

abbrev pub invariant-loop : goal.invariant-loop
invariant-loop l = AreCountsOf l.counter [] l.counts.items
