use Rattle.std.proofs.Common.{◌≡◌, ◌++◌, drop}
use Rattle.graph_build.specs.Plans.{tops_at}
use Rattle.graph_build.proofs.nodes.tops_at.Given as goal

abbrev pub invariant-loop-place : goal.invariant-loop-place
invariant-loop-place l = l.found.items ++ tops_at l.tops (drop l.place-index l.places) ≡ tops_at l.tops l.places
