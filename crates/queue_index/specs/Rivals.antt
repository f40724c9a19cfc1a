-- Which entries conflict. A key names a thing and says how the entry has it: exclusive (mode 0), shared
-- (mode 1), or by name only (any other mode). Two entries conflict where they have one thing, neither by
-- name only, and one of the two has it exclusive.
use Rattle.std.specs.Prelude.{ℕ, Bool, false, ◌==◌, cond, List, [], ◌∷◌, Option, Some, None}
use Rattle.std.specs.List.{list_any}
use Rattle.queue_index.specs.declared.key.Key.{Key}
use Rattle.queue_index.specs.Queue.{item_at, items, touches, touching, is_at_number}

-- the key of the same thing in another mode
abbrev pub of_mode : ℕ → Key → Key
of_mode m k = record { kind = k.kind; hi = k.hi; lo = k.lo; mode = m }

-- the keys that conflict with a key
abbrev pub rival_keys : Key → List Key
rival_keys k = cond (k.mode == 0) (of_mode 0 k ∷ of_mode 1 k ∷ []) (cond (k.mode == 1) (of_mode 0 k ∷ []) [])

module _ {T : Type 0} (keys : T → List Key) where
  -- whether an item has a key that conflicts with this one
  abbrev pub meets_key : Key → T → Bool
  meets_key k x = list_any (λ j. touches keys j x) (rival_keys k)

  -- whether two items conflict
  abbrev pub conflicts : T → T → Bool
  conflicts x y = list_any (λ k. meets_key k y) (keys x)

  -- whether an item conflicts with one of the entries that have a key
  abbrev pub is_rival : Key → List (ℕ × T) → T → Bool
  is_rival k es y = list_any (λ x. conflicts x y) (items (touching keys k es))

  -- whether the item of one number conflicts with that of another
  abbrev pub meets_number : List (ℕ × T) → ℕ → Option T → Bool
  meets_number es q None = false
  meets_number es q (Some x) = is_at_number (λ _. conflicts x) es q

  abbrev pub meets_at : List (ℕ × T) → ℕ → ℕ → Bool
  meets_at es q n = meets_number es q (item_at n es)
