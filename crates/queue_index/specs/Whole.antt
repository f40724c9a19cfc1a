-- What a queue keeps: there is a place exactly where the entry of its number has its key, and the numbers
-- rise and are small.
use Rattle.std.specs.Prelude.{◌≡◌, ℕ, ◌≤◌, ◌+◌, ◌^◌, Bool, false, List, Option, Some, None}
use Rattle.std.specs.BTreeSet.{BTreeSet, contains}
use Rattle.std.specs.Map.{keys_of}
use Rattle.std.specs.Ordering.{nat_cmp}
use Rattle.std.specs.List.Sorted.{IsStrictlySortedBy}
use Rattle.queue_index.specs.declared.key.Key.{Key}
use Rattle.queue_index.specs.declared.place.Place.{Place}
use Rattle.queue_index.specs.Places.{has_key, place_cmp, place}
use Rattle.queue_index.specs.Queue.{item_at}

module _ {T : Type 0} (keys : T → List Key) where
  -- whether an item that may be there has a key
  abbrev pub has : Option T → Key → Bool
  has None k = false
  has (Some x) k = has_key k (keys x)

  abbrev pub ArePlaced : List (ℕ × T) → BTreeSet Place → Type 0
  ArePlaced es places = (k : Key) (n : ℕ) → contains place_cmp places (place k n) ≡ has (item_at n es) k

-- all numbers are less than 2^64 - 1
abbrev pub AreSmall : {T : Type 0} → List (ℕ × T) → Type 0
AreSmall es = (n : ℕ) → 2 ^ 64 ≤ n + 1 → item_at n es ≡ None

pub record IsWhole {T : Type 0} (keys : T → List Key) (es : List (ℕ × T)) (places : BTreeSet Place) : Type 0 where
  pub placed : ArePlaced keys es places
  pub rising : IsStrictlySortedBy nat_cmp (keys_of es)
  pub small : AreSmall es
