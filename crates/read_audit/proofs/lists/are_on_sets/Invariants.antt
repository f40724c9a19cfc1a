use Rattle.std.proofs.Common.{take}
use Rattle.std.specs.List.{AllByRecursion}
use Rattle.read_audit.specs.Names.{IsOnASet}
use Rattle.read_audit.proofs.lists.are_on_sets.Given as goal

abbrev pub invariant-loop-item : goal.invariant-loop-item
invariant-loop-item l = AllByRecursion (IsOnASet l.lists) (take l.item-index l.shown)
