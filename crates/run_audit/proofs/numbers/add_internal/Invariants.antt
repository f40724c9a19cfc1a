use Rattle.std.proofs.Common.{◌≡◌, ◌++◌, ◌+◌, drop, map}
use Rattle.mount_log.specs.Phases.{internal_from}
use Rattle.run_audit.proofs.numbers.add_internal.Given as goal

abbrev pub invariant-loop-k : goal.invariant-loop-k
invariant-loop-k l = l.numbers ++ internal_from (l.k + 1) (drop l.k l.events) ≡ l.fn.numbers ++ internal_from 1 l.events
