use Rattle.std.proofs.Common.{◌≡◌, replicate}
use Rattle.std.specs.FinMap.{empty}
use Rattle.flat_fs.proofs.mount.no_sessions.Given as goal

abbrev pub invariant-loop : goal.invariant-loop
invariant-loop l = l.sessions.items ≡ replicate l.counter empty
