use Rattle.std.proofs.Common.{◌≡◌, drop}
use Rattle.std.specs.List.{list_any}
use Rattle.graph_build.specs.Follows.{has_brick}
use Rattle.graph_build.proofs.followings.is_held.Given as goal

abbrev pub invariant-loop-set : goal.invariant-loop-set
invariant-loop-set l = list_any (has_brick l.brick) (drop l.set-index l.sets) ≡ list_any (has_brick l.brick) l.sets
