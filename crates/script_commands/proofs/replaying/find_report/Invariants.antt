use Rattle.std.specs.Prelude.{◌+◌, ◌-◌, length}
use Rattle.script_commands.proofs.ReportLines.{AreSearched}
use Rattle.script_commands.proofs.replaying.find_report.Given as goal

abbrev pub invariant-loop-at : goal.invariant-loop-at
invariant-loop-at l = AreSearched l.text l.at l.lines

abbrev pub decreases-loop-at : goal.decreases-loop-at
decreases-loop-at l = (length l.text + 1) - l.at
