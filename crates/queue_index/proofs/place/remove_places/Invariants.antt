use Rattle.std.proofs.Common.{◌≡◌, ◌&&◌, not, take}
use Rattle.std.specs.BTreeSet as sorted
use Rattle.queue_index.specs.declared.place.Place.{Place}
use Rattle.queue_index.specs.Places.{place_cmp, is_of}
use Rattle.queue_index.proofs.place.remove_places.Given as goal

abbrev pub invariant-loop-at : goal.invariant-loop-at
invariant-loop-at g l = (q : Place) → sorted.contains place_cmp l.places q ≡ (sorted.contains place_cmp l.initial.places q && not (is_of (take l.at (g.T.Keyed.keys l.item)) l.number q))
