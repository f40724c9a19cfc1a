use Rattle.hub_tables.proofs.SetsWhere.{AreBelow}
use Rattle.world_bricks.specs.Lines.{may_serve}
use Rattle.world_bricks.proofs.lines.Lines.serving.Given as goal

abbrev pub invariant-loop-brick : goal.invariant-loop-brick
invariant-loop-brick l = AreBelow (may_serve l.self) l.brick l.serving
