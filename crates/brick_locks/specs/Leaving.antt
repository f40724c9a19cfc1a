-- Whose requests leave a brick, one owner's or a graph's, and who holds then.
use Rattle.std.specs.Prelude.{ℕ, Bool, true, false, cond, not, ◌≡◌, ◌==◌, ◌&&◌, ◌||◌, List, []}
use Rattle.std.specs.List.{filter, list_any}
use Rattle.queue_index.specs.declared.key.Key.{Key}
use Rattle.brick_locks.specs.declared.owner.Owner.{Owner as Caller}
use Rattle.brick_locks.specs.declared.request.Request.{Request}
use Rattle.brick_locks.specs.Locks.{is_of, holds, freed, owners}

abbrev pub other_owner : Caller → Request → Bool
other_owner o r = not (is_of o r)

abbrev pub other_graph : ℕ → Request → Bool
other_graph g r = not (g == r.owner.graph)

-- a release takes the owner's request away where it holds, and frees what waits for nothing else
abbrev pub released : Caller → List Request → List Request
released o rs = cond (holds o rs) (filter (other_owner o) rs) rs

abbrev pub freed_by : Caller → List Request → List Caller
freed_by o rs = cond (holds o rs) (owners (freed (other_owner o) rs)) []

abbrev pub is_owner : Caller → Caller → Bool
is_owner o p = (o.graph == p.graph) && (o.call == p.call)

abbrev pub is_among : Caller → List Caller → Bool
is_among o os = list_any (is_owner o) os

-- Who holds after the owners that leave are gone and some were granted: exactly those that held and did not
-- leave, and those that were granted.
abbrev pub HoldersAre : (Caller → Bool) → List Request → List Caller → List Request → Type 0
HoldersAre leaves old granted new = (o : Caller) → holds o new ≡ ((holds o old && not (leaves o)) || is_among o granted)
