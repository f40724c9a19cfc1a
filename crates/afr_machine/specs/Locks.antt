-- The locks of a brick: which two conflict, and which waiting ones are granted when others were dropped. A lock's
-- owner is its transaction. After features/locks, with locks on several cells at once.
use Rattle.std.specs.Prelude.{ℕ, Bool, false, not, ◌&&◌, ◌||◌, ◌==◌, List, [], ◌∷◌, ◌++◌, if◌then◌else◌}
use Rattle.fop_types.specs.declared.cells.Cell.{Cell}
use Rattle.afr_machine.specs.Touching.{share}
use Rattle.afr_machine.specs.Requests.{Sender}

pub record BrickLock : Type 0 where
  pub by : Sender
  pub shared : Bool
  pub cells : List Cell

-- two locks conflict where they have a common cell and one of the two is exclusive
abbrev pub conflict : BrickLock → BrickLock → Bool
conflict a b = share a.cells b.cells && not (a.shared && b.shared)

-- the lock conflicts with one of them
abbrev pub conflicts_among : List BrickLock → BrickLock → Bool
conflicts_among [] lock = false
conflicts_among (l ∷ ls) lock = conflict l lock || conflicts_among ls lock

abbrev pub those : (BrickLock → Bool) → List BrickLock → List BrickLock
those passes [] = []
those passes (l ∷ ls) = if passes l then l ∷ those passes ls else those passes ls

abbrev pub is_of_txn : ℕ → BrickLock → Bool
is_of_txn t lock = lock.by.txn == t

abbrev pub is_of_graph : ℕ → BrickLock → Bool
is_of_graph g lock = lock.by.graph == g

-- held and waiting locks, each in order, and the locks that were granted on the way
pub record Queue : Type 0 where
  pub held : List BrickLock
  pub waiting : List BrickLock
  pub granted : List BrickLock

abbrev pub and_granted : BrickLock → Queue → Queue
and_granted lock queue = record queue { granted = lock ∷ queue.granted }

-- Each waiting lock, in queue order, is granted where it conflicts with no held lock and with no earlier one that
-- still waits.
abbrev pub granted_in_order : List BrickLock → List BrickLock → List BrickLock → Queue
granted_in_order held still [] = record { held = held; waiting = still; granted = [] }
granted_in_order held still (l ∷ ls) =
    if conflicts_among (held ++ still) l
    then granted_in_order held (still ++ l ∷ []) ls
    else and_granted l (granted_in_order (held ++ l ∷ []) still ls)
