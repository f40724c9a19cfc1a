-- The waiters of a brick beside its locks: each request that waits has one waiter, with its cells, and there are no
-- other waiters.
use Rattle.std.specs.Prelude.{◌≡◌, List, [], ◌∷◌, if◌then◌else◌}
use Rattle.fop_types.specs.declared.cells.Cell.{Cell}
use Rattle.brick_locks.specs.Leaving.{is_owner}
use Rattle.brick_locks.specs.Locks.{is_of, waiting, OwnersDiffer}
use Rattle.brick_locks.specs.declared.owner.Owner.{Owner}
use Rattle.brick_locks.specs.declared.request.Request.{Request}
use Rattle.brick_machine.specs.Waiting.{Waiting}
use Rattle.brick_machine.specs.declared.state.State.{State}

-- the cells that an owner's waiters have, and those that its requests have
abbrev pub waiter_cells : Owner → Waiting → List (List Cell)
waiter_cells owner [] = []
waiter_cells owner (e ∷ es) = if is_owner owner e.0 then e.1.cells ∷ waiter_cells owner es else waiter_cells owner es

abbrev pub request_cells : Owner → List Request → List (List Cell)
request_cells owner [] = []
request_cells owner (r ∷ rs) = if is_of owner r then r.cells ∷ request_cells owner rs else request_cells owner rs

-- no owner has two requests, and the waiters are those of the requests that wait
pub record IsOrderly (s : State) : Type 0 where
  pub owners : OwnersDiffer s.locks
  pub waiters : (owner : Owner) → waiter_cells owner s.waiters ≡ request_cells owner (waiting s.locks)
