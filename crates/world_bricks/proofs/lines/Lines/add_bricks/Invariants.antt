use Rattle.std.proofs.Common.{◌≡◌}
use Rattle.world_bricks.specs.Lines.{new_lines}
use Rattle.world_bricks.proofs.lines.Lines.add_bricks.Given as goal

abbrev pub invariant-loop-number : goal.invariant-loop-number
invariant-loop-number l = l.self ≡ new_lines l.script l.plans l.number
