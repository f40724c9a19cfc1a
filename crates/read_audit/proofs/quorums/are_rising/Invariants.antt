use Rattle.std.proofs.Common.{drop}
use Rattle.change_audit.specs.Bearing.{RisesFrom}
use Rattle.read_audit.proofs.quorums.are_rising.Given as goal

abbrev pub invariant-loop-holder : goal.invariant-loop-holder
invariant-loop-holder l = RisesFrom l.least (drop l.holder-index l.holders) → RisesFrom 0 l.holders
