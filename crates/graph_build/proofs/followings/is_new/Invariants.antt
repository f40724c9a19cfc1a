use Rattle.std.proofs.Common.{◌≡◌, drop}
use Rattle.std.specs.Prelude.{not}
use Rattle.std.specs.List.{list_all, list_any}
use Rattle.graph_build.specs.Follows.{has_brick}
use Rattle.graph_build.proofs.followings.is_new.Given as goal

abbrev pub invariant-loop-brick : goal.invariant-loop-brick
invariant-loop-brick l = list_all (λ b. not (list_any (has_brick b) l.old)) (drop l.brick-index l.set.bricks) ≡ list_all (λ b. not (list_any (has_brick b) l.old)) l.set.bricks
