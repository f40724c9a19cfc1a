use Rattle.std.proofs.Common.{◌≡◌, ◌++◌, drop}
use Rattle.history_replay.specs.Reports.{of_session}
use Rattle.history_replay.proofs.lines.named_of.Given as goal

abbrev pub invariant-loop-named : goal.invariant-loop-named
invariant-loop-named l = l.found.items ++ of_session l.session (drop l.named-index l.lines) ≡ of_session l.session l.lines
