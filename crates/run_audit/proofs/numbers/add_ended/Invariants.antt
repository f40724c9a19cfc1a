use Rattle.std.proofs.Common.{◌≡◌, ◌++◌, ◌+◌, drop, map}
use Rattle.mount_log.specs.Phases.{ended_in}
use Rattle.run_audit.proofs.numbers.add_ended.Given as goal

abbrev pub invariant-loop-line : goal.invariant-loop-line
invariant-loop-line l = l.numbers ++ ended_in (drop l.line-index l.winds) ≡ l.fn.numbers ++ ended_in l.winds
