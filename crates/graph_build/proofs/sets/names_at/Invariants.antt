use Rattle.std.proofs.Common.{◌≡◌, ◌++◌, drop}
use Rattle.graph_build.specs.Plans.{names_at}
use Rattle.graph_build.proofs.sets.names_at.Given as goal

abbrev pub invariant-loop-place : goal.invariant-loop-place
invariant-loop-place l = l.names.items ++ names_at l.volumes (drop l.place-index l.places) ≡ names_at l.volumes l.places
