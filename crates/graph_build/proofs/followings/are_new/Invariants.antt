use Rattle.std.proofs.Common.{◌≡◌, drop}
use Rattle.std.specs.List.{list_all}
use Rattle.graph_build.specs.Follows.{is_new}
use Rattle.graph_build.proofs.followings.are_new.Given as goal

abbrev pub invariant-loop-set : goal.invariant-loop-set
invariant-loop-set l = list_all (is_new l.old) (drop l.set-index l.sets) ≡ list_all (is_new l.old) l.sets
