-- A layout gives each set of a distribute volume, by its number, a range of hashes, or none. A set has
-- the names whose hashes are in its range.
use Rattle.std.specs.Prelude.{◌≡◌, ℕ, ◌+◌, ◌-◌, ◌*◌, ◌/◌, ◌^◌, ◌<◌, ◌&&◌, Bool, false, nat_le, map, List, Option, Some, None, IsTrue, slice_index_or}
use Rattle.std.specs.List.{range_with_len}
use Rattle.fop_types.specs.declared.contents.Span.{Span}

-- whether a range, if there is one, holds the hash
abbrev pub holds : ℕ → Option Span → Bool
holds hash None = false
holds hash (Some span) = nat_le span.first hash && nat_le hash span.last

-- the set's range holds the hash
abbrev pub Has : List (Option Span) → ℕ → ℕ → Type 0
Has layout set hash = IsTrue (holds hash (slice_index_or layout set None))

-- the set is the lowest whose range holds the hash
pub record IsLowestWith (layout : List (Option Span)) (hash set : ℕ) : Type 0 where
  pub has : Has layout set hash
  pub lowest : (lower : ℕ) → lower < set → ¬ Has layout lower hash

-- set i of m has the hashes from floor (i * 2 ^ 32 / m) up to the next set's first
abbrev pub even_span : ℕ → ℕ → Span
even_span sets set = record { first = set * 2 ^ 32 / sets; last = (set + 1) * 2 ^ 32 / sets - 1 }

-- the even split of all hashes over that many sets
abbrev pub even_layout : ℕ → List (Option Span)
even_layout sets = map (λ set. Some (even_span sets set)) (range_with_len 0 sets)

-- exactly one set has the hash
pub record IsHeldOnce (layout : List (Option Span)) (hash : ℕ) : Type 0 where
  pub set : ℕ
  pub has : Has layout set hash
  pub only : (other : ℕ) → Has layout other hash → other ≡ set

-- each hash is in the range of exactly one set
abbrev pub CoversEachOnce : List (Option Span) → Type 0
CoversEachOnce layout = (hash : ℕ) → hash < 2 ^ 32 → IsHeldOnce layout hash
