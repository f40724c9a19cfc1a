use Rattle.std.proofs.Common.{take}
use Rattle.std.specs.List.{AllByRecursion}
use Rattle.error_audit.specs.LockTable.{IsFollowed}
use Rattle.error_audit.proofs.lock_phases.are_in_order.Given as goal

abbrev pub invariant-loop-one : goal.invariant-loop-one
invariant-loop-one l = AllByRecursion (IsFollowed l.plan l.from l.locks) (take l.one-index l.locks)
