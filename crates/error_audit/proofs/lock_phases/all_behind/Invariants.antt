use Rattle.std.proofs.Common.{take}
use Rattle.std.specs.List.{AllByRecursion}
use Rattle.error_audit.specs.LockTable.{IsBehind}
use Rattle.error_audit.proofs.lock_phases.all_behind.Given as goal

abbrev pub invariant-loop-other : goal.invariant-loop-other
invariant-loop-other l = AllByRecursion (IsBehind l.plan l.one) (take l.other-index l.locks)
