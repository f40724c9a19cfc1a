use Rattle.std.proofs.Common.{◌≡◌, ◌++◌, drop}
use Rattle.graph_build.specs.Plans.{bricks_at}
use Rattle.graph_build.proofs.sets.bricks_at.Given as goal

abbrev pub invariant-loop-place : goal.invariant-loop-place
invariant-loop-place l = l.bricks.items ++ bricks_at l.infos (drop l.place-index l.places) ≡ bricks_at l.infos l.places
