-- The requests of a brick by their numbers: which of them wait, and whose turn comes when others leave.
use Rattle.std.specs.Prelude.{ℕ, Bool, true, false, cond, not, ◌&&◌, ◌||◌, List, [], ◌∷◌, Option, Some, None}
use Rattle.std.specs.List.{list_any, filter}
use Rattle.fop_types.specs.declared.cells.Cell.{Cell}
use Rattle.queue_index.specs.declared.key.Key.{Key}
use Rattle.queue_index.specs.Queue.{item_at, items, before, touches, touching}
use Rattle.brick_locks.specs.declared.owner.Owner.{Owner}
use Rattle.brick_locks.specs.declared.request.Request.{Request}
use Rattle.brick_locks.specs.Locks.{has_cell, is_kept_by}
use Rattle.brick_locks.specs.Keys.{keys_of}

-- whether a request on one cell, shared or exclusive, conflicts with s
abbrev pub bars : Cell → Bool → Request → Bool
bars c together s = has_cell s c && not (together && s.shared)

-- the same of a request on several cells
abbrev pub meets : List Cell → Bool → Request → Bool
meets cs together s = list_any (has_cell s) cs && not (together && s.shared)

-- whether a request at a number waits
abbrev pub waits : List (ℕ × Request) → ℕ → Request → Bool
waits es n r = is_kept_by (items (before n es)) r

-- the owner of a request that is there and passes
abbrev pub owner_if : (ℕ → Request → Bool) → ℕ → Option Request → Option Owner
owner_if p n None = None
owner_if p n (Some r) = cond (p n r) (Some r.owner) None

abbrev pub owner_at : (ℕ → Request → Bool) → List (ℕ × Request) → ℕ → Option Owner
owner_at p es n = owner_if p n (item_at n es)

abbrev pub with_owner : Option Owner → List Owner → List Owner
with_owner None os = os
with_owner (Some o) os = o ∷ os

-- the owners, of these numbers, whose requests pass
abbrev pub picked : (ℕ → Request → Bool) → List (ℕ × Request) → List ℕ → List Owner
picked p es [] = []
picked p es (n ∷ ns) = with_owner (owner_at p es n) (picked p es ns)
