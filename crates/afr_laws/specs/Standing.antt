-- What a granted lock keeps in place: nobody else's request in the line alters one of its cells, and the rows that the
-- grant showed stand. Ours.
use Rattle.std.specs.Prelude.{◌≡◌, ◌⊎◌, ◌||◌, ℕ, Bool, true, false, List, [], ◌∷◌, Some}
use Rattle.fop_types.specs.declared.cells.Cell.{Cell}
use Rattle.fop_types.specs.declared.contents.Row.{Row}
use Rattle.afr_machine.specs.Replicas.{Size}
use Rattle.afr_machine.specs.Touching.{has_cell}
use Rattle.afr_machine.specs.Copies.{Store, rows_of}
use Rattle.afr_machine.specs.Requests.{Ask, Output}
use Rattle.afr_machine.specs.Requests.Answer.{Rows}
use Rattle.afr_machine.specs.Requests.Output.{Answered, Closed, Opened, Connected}
use Rattle.afr_machine.specs.Locks.{BrickLock}
use Rattle.afr_machine.specs.Transactions.{Stage, Grant, Txn}
use Rattle.afr_machine.specs.Transactions.Stage.{Locking, Locked}
use Rattle.afr_machine.specs.States.{State, is_current}
use Rattle.afr_machine.specs.Steps.{IsReached}
use Rattle.afr_laws.specs.Senders.{EachInput}
use Rattle.afr_laws.specs.Grants.{lock_granted}
use Rattle.afr_laws.specs.Covered.{alters}
use Rattle.afr_laws.specs.Alone.{IsApartFrom}
use Rattle.afr_laws.specs.Apart.{Holds, IsGranted}

-- ---- nobody else alters its cells

-- whatever is on its way from the brick
abbrev pub GrantedAlterAlone : State → Type 0
GrantedAlterAlone m = (k : ℕ) (lock : BrickLock) → IsGranted m k lock → EachInput (IsApartFrom lock) (m.bricks k).line

-- ---- its own transaction alters nothing before it is locked

-- the stages in which rows are gathered and read
abbrev pub is_gathering : Stage → Bool
is_gathering (Locking cells shared next) = true
is_gathering Locked = true
is_gathering other = false

abbrev pub any_alters : List Ask → Bool
any_alters [] = false
any_alters (ask ∷ asks) = alters ask || any_alters asks

-- what such a transaction has on its way where it holds a lock alters nothing
abbrev pub IsCalm : Txn → Type 0
IsCalm x = is_gathering x.stage ≡ true → (k : ℕ) (grant : Grant) → x.grants k ≡ Some grant → any_alters (x.flying k) ≡ false

abbrev pub GatheringIsCalm : State → Type 0
GatheringIsCalm m = (t : ℕ) → IsCalm (m.txns t)

-- ---- rows

-- the counters are those that were shown; a copy that was there is there, with the same last change
pub record StillShows (shown now : Row) : Type 0 where
  pub counters : now.pending ≡ shown.pending
  pub present : shown.present ≡ true → now.present ≡ true
  pub last : shown.present ≡ true → now.last ≡ shown.last

-- the outputs before the first Closed grant the lock, and show these rows
abbrev pub IsShowing : BrickLock → (Cell → Row) → List Output → Type 0
IsShowing lock rows [] = ⊥
IsShowing lock rows (Answered by ask answer ∷ os) = ((lock_granted by ask answer ≡ Some lock) × (answer ≡ Rows rows)) ⊎ IsShowing lock rows os
IsShowing lock rows (Closed ∷ os) = ⊥
IsShowing lock rows (Opened ∷ os) = IsShowing lock rows os
IsShowing lock rows (Connected graph ∷ os) = IsShowing lock rows os

-- the rows of these cells are as they were shown
abbrev pub ShowsStill : Store → List Cell → (Cell → Row) → Type 0
ShowsStill store cells rows = (cell : Cell) → has_cell cells cell ≡ true → StillShows (rows cell) (rows_of store cell)

-- from the grant on, while the connection is open, until the transaction goes on behind its lock phase
pub record RowsStand (m : State) : Type 0 where
  pub coming : (k : ℕ) (lock : BrickLock) (rows : Cell → Row) → IsShowing lock rows (m.bricks k).outputs → is_current (m.links k lock.by.graph) lock.by.connection ≡ true → ShowsStill (m.bricks k).store lock.cells rows
  pub handed : (t k : ℕ) (grant : Grant) → Holds m t k grant → is_gathering (m.txns t).stage ≡ true → ShowsStill (m.bricks k).store grant.cells grant.rows

-- ---- every list of steps

pub record KeepsRows (m : State) : Type 0 where
  pub alone : GrantedAlterAlone m
  pub calm : GatheringIsCalm m
  pub rows : RowsStand m

abbrev pub EveryRowStands : Type 0
EveryRowStands = (size : Size) (m : State) → IsReached size m → KeepsRows m
