use Rattle.std.proofs.Common.{take}
use Rattle.std.specs.List.{AllByRecursion}
use Rattle.read_audit.specs.Names.{AreShown}
use Rattle.read_audit.proofs.lists.are_all_shown.Given as goal

abbrev pub invariant-loop-items : goal.invariant-loop-items
invariant-loop-items l = AllByRecursion (AreShown l.shown) (take l.items-index l.lists)
