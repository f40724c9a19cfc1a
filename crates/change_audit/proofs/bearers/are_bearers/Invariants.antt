use Rattle.std.proofs.Common.{take}
use Rattle.std.specs.List.{AllByRecursion}
use Rattle.change_audit.specs.Bearing.{IsSaidBearer}
use Rattle.change_audit.proofs.bearers.are_bearers.Given as goal

abbrev pub invariant-loop-bearer : goal.invariant-loop-bearer
invariant-loop-bearer l = AllByRecursion (IsSaidBearer l.log l.bricks l.plan l.call l.graph l.change l.number l.text) (take l.bearer-index l.bearers)
