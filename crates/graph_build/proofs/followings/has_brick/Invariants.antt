use Rattle.std.proofs.Common.{◌≡◌, ◌==◌, drop}
use Rattle.std.specs.List.{list_any}
use Rattle.graph_build.proofs.followings.has_brick.Given as goal

abbrev pub invariant-loop-other : goal.invariant-loop-other
invariant-loop-other l = list_any (λ b. b == l.brick) (drop l.other-index l.set.bricks) ≡ list_any (λ b. b == l.brick) l.set.bricks
