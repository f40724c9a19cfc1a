use Rattle.std.proofs.Common.{◌≡◌, ◌++◌, length, drop}
use Rattle.graph_build.specs.Plans.{bottoms_at}
use Rattle.graph_build.proofs.sets.bottoms_at.Given as goal

abbrev pub invariant-loop-place : goal.invariant-loop-place
invariant-loop-place l = (l.found.items ++ bottoms_at l.infos (drop l.place-index l.places) ≡ bottoms_at l.infos l.places) × (length l.found.items ≡ l.place-index)
