use Rattle.std.proofs.Common.{◌≡◌, map, take}
use Rattle.history_replay.specs.Reports.{entry_shown}
use Rattle.history_replay.proofs.judging.history_of.Given as goal

abbrev pub invariant-loop-entry : goal.invariant-loop-entry
invariant-loop-entry l = l.history.items ≡ map entry_shown (take l.entry-index l.entries)
