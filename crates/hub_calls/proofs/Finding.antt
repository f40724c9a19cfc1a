-- An item that was found in a list is one of its items.
use Rattle.std.proofs.Common.{◌≡◌}
use Rattle.std.proofs.lemmas.Option.{slice_get_within, get_or_from_slice_get}
use Rattle.std.specs.Prelude.{ℕ, List, Contains, slice_get, Some}

pub is_contained : {X : Type 0} (xs : List X) (k : ℕ) (x : X) → slice_get xs k ≡ Some x → Contains xs x
is_contained xs k x found = (k, slice_get_within xs k x found, get_or_from_slice_get xs k x x found)
