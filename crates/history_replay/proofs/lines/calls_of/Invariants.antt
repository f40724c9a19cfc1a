use Rattle.std.proofs.Common.{◌≡◌, ◌++◌, drop}
use Rattle.history_replay.specs.Reports.{of_session}
use Rattle.history_replay.proofs.lines.calls_of.Given as goal

abbrev pub invariant-loop-line : goal.invariant-loop-line
invariant-loop-line l = l.found.items ++ of_session l.session (drop l.line-index l.calls) ≡ of_session l.session l.calls
