-- Keys and places. A place says that the entry of a number has a key; places are ordered by key and
-- then by number.
use Rattle.std.specs.Prelude.{◌≡◌, ℕ, ◌≤◌, Bool, true, false, ◌&&◌, ◌==◌, List}
use Rattle.std.specs.List.{list_any}
use Rattle.std.specs.declared.cmp.Ordering.{Ordering}
use Rattle.std.specs.Ordering.{nat_cmp, ordering_then}
use Rattle.std.specs.BTreeSet.{BTreeSet, contains}
use Rattle.queue_index.specs.declared.key.Key.{Key}
use Rattle.queue_index.specs.declared.place.Place.{Place}

abbrev pub is_key : Key → Key → Bool
is_key a b = (a.kind == b.kind) && ((a.hi == b.hi) && ((a.lo == b.lo) && (a.mode == b.mode)))

-- the key is among these
abbrev pub has_key : Key → List Key → Bool
has_key k ks = list_any (is_key k) ks

abbrev pub key_cmp : Key → Key → Ordering
key_cmp a b = ordering_then (nat_cmp a.kind b.kind) (ordering_then (nat_cmp a.hi b.hi) (ordering_then (nat_cmp a.lo b.lo) (nat_cmp a.mode b.mode)))

abbrev pub place_cmp : Place → Place → Ordering
place_cmp p q = ordering_then (key_cmp p.key q.key) (nat_cmp p.number q.number)

abbrev pub place : Key → ℕ → Place
place k n = record { key = k; number = n }

-- q is a place of the entry of number n that has these keys
abbrev pub is_of : List Key → ℕ → Place → Bool
is_of ks n q = has_key q.key ks && (q.number == n)

-- the places have the key at m, and at no number from `from` on that is below m
pub record IsFirst (places : BTreeSet Place) (key : Key) (from m : ℕ) : Type 0 where
  pub late : from ≤ m
  pub there : contains place_cmp places (place key m) ≡ true
  pub least : (n : ℕ) → from ≤ n → contains place_cmp places (place key n) ≡ true → m ≤ n

-- the places have the key at no number from `from` on
abbrev pub IsNone : BTreeSet Place → Key → ℕ → Type 0
IsNone places key from = (n : ℕ) → from ≤ n → contains place_cmp places (place key n) ≡ false
