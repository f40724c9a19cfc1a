use Rattle.hub_tables.proofs.SetsWhere.{AreBelow}
use Rattle.world_bricks.specs.Lines.{may_arrive}
use Rattle.world_bricks.proofs.lines.Lines.arriving.Given as goal

abbrev pub invariant-loop-brick : goal.invariant-loop-brick
invariant-loop-brick l = AreBelow (may_arrive l.self) l.brick l.arriving
