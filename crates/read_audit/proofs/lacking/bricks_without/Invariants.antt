use Rattle.std.specs.List.{AllByRecursion}
use Rattle.read_audit.specs.Names.{IsWithout}
use Rattle.read_audit.proofs.lacking.bricks_without.Given as goal

abbrev pub invariant-loop-brick : goal.invariant-loop-brick
invariant-loop-brick l = AllByRecursion (IsWithout l.log l.bricks l.plan l.call l.graph l.cell l.number) l.list.items
