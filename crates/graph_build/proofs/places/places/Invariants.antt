use Rattle.std.proofs.Common.{◌≡◌, ◌++◌, drop}
use Rattle.graph_build.specs.PlanRules.{places_of}
use Rattle.graph_build.proofs.places.places.Given as goal

abbrev pub invariant-loop-name : goal.invariant-loop-name
invariant-loop-name l = l.found.items ++ places_of l.volumes (drop l.name-index l.subvolumes) ≡ places_of l.volumes l.subvolumes
