-- A queue of entries with rising numbers, and which of them have a key. An entry is a number and an item;
-- `keys` gives the keys of an item.
use Rattle.std.specs.Prelude.{ℕ, ◌+◌, ◌-◌, ◌^◌, Bool, not, ◌==◌, nat_lt, nat_le, ◌&&◌, cond, false, List, [], ◌∷◌, map, length, slice_get, Option, Some, None}
use Rattle.std.specs.List.{filter}
use Rattle.std.specs.Map.{lookup}
use Rattle.std.specs.Ordering.{nat_cmp}
use Rattle.std.specs.BTreeMap.{is_at}
use Rattle.queue_index.specs.declared.key.Key.{Key}
use Rattle.queue_index.specs.Places.{has_key}

module _ {T : Type 0} where
  -- the item of a number
  abbrev pub item_at : ℕ → List (ℕ × T) → Option T
  item_at n es = lookup (is_at (nat_cmp n)) es

  -- the items, in the order of the queue
  abbrev pub items : List (ℕ × T) → List T
  items es = map (λ e. e.1) es

  abbrev pub numbers : List (ℕ × T) → List ℕ
  numbers es = map (λ e. e.0) es

  -- the entries before a number
  abbrev pub before : ℕ → List (ℕ × T) → List (ℕ × T)
  before n es = filter (λ e. nat_lt e.0 n) es

  -- the entries but that of a number
  abbrev pub without : ℕ → List (ℕ × T) → List (ℕ × T)
  without n es = filter (λ e. not (n == e.0)) es

  -- the entries, with that of a number changed
  abbrev pub changed_at : (T → T) → ℕ → List (ℕ × T) → List (ℕ × T)
  changed_at change n es = map (λ e. cond (n == e.0) (e.0, change e.1) e) es

  -- whether the entry of a number is there and passes a test
  abbrev pub passes : (ℕ → T → Bool) → ℕ → Option T → Bool
  passes p n None = false
  passes p n (Some x) = p n x

  abbrev pub is_at_number : (ℕ → T → Bool) → List (ℕ × T) → ℕ → Bool
  is_at_number p es n = passes p n (item_at n es)

  abbrev pub after_entry : Option (ℕ × T) → ℕ
  after_entry None = 2 ^ 63
  after_entry (Some e) = e.0 + 1

  abbrev pub before_entry : Option (ℕ × T) → ℕ
  before_entry None = 2 ^ 63
  before_entry (Some e) = e.0 - 1

  -- whether an entry that may be there has a number
  abbrev pub has_number : ℕ → Option (ℕ × T) → Bool
  has_number n None = false
  has_number n (Some e) = e.0 == n

  -- whether the numbers at the end are used up, and those at the front
  abbrev pub is_end_used : List (ℕ × T) → Bool
  is_end_used es = has_number (2 ^ 64 - 2) (slice_get es (length es - 1))

  abbrev pub is_front_used : List (ℕ × T) → Bool
  is_front_used es = has_number 0 (slice_get es 0)

  -- the number of an entry that is put at the end, and of one that is put at the front
  abbrev pub number_after : List (ℕ × T) → ℕ
  number_after es = after_entry (slice_get es (length es - 1))

  abbrev pub number_before : List (ℕ × T) → ℕ
  number_before es = before_entry (slice_get es 0)

  -- items with the numbers from n on
  abbrev pub numbered_from : ℕ → List T → List (ℕ × T)
  numbered_from n [] = []
  numbered_from n (x ∷ xs) = (n, x) ∷ numbered_from (n + 1) xs

  -- the entries with fresh numbers, in the same order
  abbrev pub renumbered : List (ℕ × T) → List (ℕ × T)
  renumbered es = numbered_from (2 ^ 63) (items es)

  -- the entries before one is put at the end, and before one is put at the front: with fresh numbers where
  -- the numbers there are used up
  abbrev pub with_free_end : List (ℕ × T) → List (ℕ × T)
  with_free_end es = cond (is_end_used es) (renumbered es) es

  abbrev pub with_free_front : List (ℕ × T) → List (ℕ × T)
  with_free_front es = cond (is_front_used es) (renumbered es) es

module _ {T : Type 0} (keys : T → List Key) where
  -- whether an item has a key
  abbrev pub touches : Key → T → Bool
  touches k x = has_key k (keys x)

  -- the entries that have a key, from a number on
  abbrev pub touching_from : Key → ℕ → List (ℕ × T) → List (ℕ × T)
  touching_from k from es = filter (λ e. nat_le from e.0 && touches k e.1) es

  -- all entries that have a key
  abbrev pub touching : Key → List (ℕ × T) → List (ℕ × T)
  touching k es = filter (λ e. touches k e.1) es
