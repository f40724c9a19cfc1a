use Rattle.std.proofs.Common.{◌≡◌, ◌++◌, ◌+◌, drop, map}
use Rattle.mount_log.specs.Phases.{owed_in}
use Rattle.run_audit.proofs.numbers.add_owed.Given as goal

abbrev pub invariant-loop-line : goal.invariant-loop-line
invariant-loop-line l = l.numbers ++ owed_in (drop l.line-index l.sent) ≡ l.fn.numbers ++ owed_in l.sent
