use Rattle.std.proofs.Common.{◌≡◌, ◌≤◌, ℕ, List, length, drop}
use Rattle.volfile.specs.VolumeNames.{place_in, place_of}
use Rattle.graph_build.proofs.OptionLemmas.{later}
use Rattle.graph_build.proofs.places.names_of.Given as goal

abbrev pub invariant-loop-place : goal.invariant-loop-place
invariant-loop-place l = (l.place ≤ length l.volumes) × ((q : List ℕ) → place_in l.names q ≡ later l.place (place_of q (drop l.place l.volumes)))

abbrev pub decreases-loop-place : goal.decreases-loop-place
decreases-loop-place l = l.place
