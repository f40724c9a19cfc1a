use Rattle.std.proofs.Common.{◌≡◌, ◌+◌, length, drop}
use Rattle.history_replay.specs.Reports.{AreCallsOf}
use Rattle.history_replay.proofs.lines.are_calls_of.Given as goal

abbrev pub invariant-loop-at : goal.invariant-loop-at
invariant-loop-at l = AreCallsOf l.script (l.at + 1) (drop l.at l.lines) (drop l.at l.calls) → AreCallsOf l.script 1 l.lines l.calls
