use Rattle.std.proofs.Common.{◌≡◌}
use Rattle.std.specs.Prelude.{map, take}
use Rattle.read_audit.specs.Read.{brick_in}
use Rattle.read_audit.proofs.quorums.bricks_in.Given as goal

abbrev pub invariant-loop-row : goal.invariant-loop-row
invariant-loop-row l = l.bricks.items ≡ map brick_in (take l.row-index l.rows)
