use Rattle.std.proofs.Common.{◌≡◌, map, take}
use Rattle.history_replay.specs.Reports.{submission_of}
use Rattle.history_replay.proofs.lines.submissions.Given as goal

abbrev pub invariant-loop-named : goal.invariant-loop-named
invariant-loop-named l = l.calls.items ≡ map submission_of (take l.named-index l.lines)
