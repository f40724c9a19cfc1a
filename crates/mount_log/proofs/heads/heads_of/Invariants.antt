use Rattle.std.proofs.Common.{◌≡◌, ◌++◌, ◌+◌, drop, map}
use Rattle.mount_log.specs.Heads.{heads_of}
use Rattle.mount_log.proofs.heads.heads_of.Given as goal

abbrev pub invariant-loop-k : goal.invariant-loop-k
invariant-loop-k l = l.heads.items ++ heads_of (drop l.k l.events) ≡ heads_of l.events
