use Rattle.std.proofs.Common.{◌≡◌, ◌++◌, ◌+◌, drop, map}
use Rattle.mount_log.specs.Phases.{opened_in}
use Rattle.run_audit.proofs.numbers.add_opened.Given as goal

abbrev pub invariant-loop-line : goal.invariant-loop-line
invariant-loop-line l = l.numbers ++ opened_in (drop l.line-index l.winds) ≡ l.fn.numbers ++ opened_in l.winds
