use Rattle.std.proofs.Common.{◌≡◌, replicate}
use Rattle.std.specs.FinMap.{empty}
use Rattle.history_replay.proofs.progress.no_fds.Given as goal

abbrev pub invariant-loop : goal.invariant-loop
invariant-loop l = l.fds.items ≡ replicate l.counter empty
