use Rattle.std.specs.List.{AllByRecursion}
use Rattle.read_audit.specs.Read.{IsHolder}
use Rattle.read_audit.proofs.quorums.rows_shown.Given as goal

abbrev pub invariant-loop-brick : goal.invariant-loop-brick
invariant-loop-brick l = AllByRecursion (IsHolder l.log l.bricks l.plan l.call l.graph l.cells l.place l.until) l.rows.items
