-- Which entries come next where those of a key leave. On a thing, the entries after one run up to the first
-- that has the thing exclusive; those behind it conflict with it, so they are not next.
use Rattle.std.specs.Prelude.{ℕ, ◌+◌, Bool, false, not, ◌&&◌, nat_lt, nat_le, List, Option, Some, None}
use Rattle.std.specs.List.{list_any}
use Rattle.queue_index.specs.declared.key.Key.{Key}
use Rattle.queue_index.specs.Queue.{item_at, numbers, touches, touching, touching_from, is_at_number}
use Rattle.queue_index.specs.Rivals.{of_mode, meets_key}

-- whether a number is past the last one of a run, where the run has an end
abbrev pub is_past : Option ℕ → ℕ → Bool
is_past None n = false
is_past (Some last) n = nat_lt last n

module _ {T : Type 0} (keys : T → List Key) where
  -- whether a number is at least `from`, and no entry from there on and before it has the key
  abbrev pub is_in_run : List (ℕ × T) → Key → ℕ → ℕ → Bool
  is_in_run es k from q = nat_le from q && not (list_any (λ n. nat_lt n q) (numbers (touching_from keys k from es)))

  -- whether an item at a number comes next on the thing of a key, from a number on: it conflicts with the key,
  -- and no entry between has the thing exclusive
  abbrev pub is_next_on : List (ℕ × T) → ℕ → Key → ℕ → T → Bool
  is_next_on es from k q y = meets_key keys k y && is_in_run es (of_mode 0 k) from q

  -- whether it comes next on one of the things of an item, from a number on
  abbrev pub is_next_to : List (ℕ × T) → ℕ → T → ℕ → T → Bool
  is_next_to es from x q y = list_any (λ k. is_next_on es from k q y) (keys x)

  -- whether it comes next after one of the entries that have a key
  abbrev pub is_next : Key → List (ℕ × T) → ℕ → T → Bool
  is_next k es q y = list_any (λ e. is_next_to es (e.0 + 1) e.1 q y) (touching keys k es)

  -- whether the item of one number comes next after that of another
  abbrev pub follows_item : List (ℕ × T) → ℕ → ℕ → Option T → Bool
  follows_item es q n None = false
  follows_item es q n (Some x) = is_at_number (is_next_to es (n + 1) x) es q

  abbrev pub follows_at : List (ℕ × T) → ℕ → ℕ → Bool
  follows_at es q n = follows_item es q n (item_at n es)
