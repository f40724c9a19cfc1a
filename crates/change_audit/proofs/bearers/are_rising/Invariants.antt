use Rattle.std.proofs.Common.{map, drop}
use Rattle.std.specs.Prelude.{◌↔◌}
use Rattle.change_audit.specs.Bearing.{brick_of, RisesFrom}
use Rattle.change_audit.proofs.bearers.are_rising.Given as goal

abbrev pub invariant-loop-bearer : goal.invariant-loop-bearer
invariant-loop-bearer l = RisesFrom l.least (map brick_of (drop l.bearer-index l.bearers)) ↔ RisesFrom 0 (map brick_of l.bearers)
