use Rattle.std.proofs.Common.{◌≡◌, drop}
use Rattle.graph_build.specs.PlanRules.{gathered, no_tree}
use Rattle.graph_build.proofs.trees.gathered.Given as goal

abbrev pub invariant-loop-place : goal.invariant-loop-place
invariant-loop-place l = gathered l.tree l.infos (drop l.place-index l.places) ≡ gathered no_tree l.infos l.places
