-- What an earlier lock phase that writes knows of copies, the rows of a later one over the cell show. Ours.
use Rattle.std.specs.Prelude.{◌≡◌, ◌<◌, ◌≤◌, ℕ, true, false}
use Rattle.fop_types.specs.declared.cells.Cell.{Cell}
use Rattle.fop_types.specs.declared.contents.Row.{Row}
use Rattle.afr_machine.specs.Replicas.{Size, IsSize}
use Rattle.afr_machine.specs.Touching.{has_cell}
use Rattle.afr_machine.specs.Locks.{BrickLock}
use Rattle.afr_machine.specs.Phases.Deciding.{ByPosts}
use Rattle.afr_machine.specs.Transactions.{Grant, CopyRun}
use Rattle.afr_machine.specs.Transactions.Stage.{Copying}
use Rattle.afr_machine.specs.States.{State, is_current}
use Rattle.afr_machine.specs.Steps.{IsReached}
use Rattle.afr_laws.specs.Apart.{Holds}
use Rattle.afr_laws.specs.Fresh.{is_behind}
use Rattle.afr_laws.specs.OwnChanges.{was_unsettled}
use Rattle.afr_laws.specs.Standing.{is_gathering, IsShowing}
use Rattle.afr_laws.specs.Work.{shares_of}

-- it wrote, or its transaction is in it and has exclusive locks
pub data MayWrite (m : State) (q : ℕ) : Type 0 where
  Wrote : (m.phases q).wrote ≡ true → MayWrite m q
  Lasts : (t : ℕ) → (m.txns t).phase ≡ q → is_behind (m.txns t).stage ≡ true → shares_of (m.txns t).job (m.txns t).work ≡ false → MayWrite m q

-- it saw a copy at the brick; or the brick confirmed a replacement, or a clear that rests on one was confirmed
pub data KnowsCopy (m : State) (q k : ℕ) (cell : Cell) : Type 0 where
  Saw : (m.phases q).reached k ≡ true → ((m.phases q).rows k cell).present ≡ true → KnowsCopy m q k cell
  Copied : (t : ℕ) → (run : CopyRun) → (m.txns t).phase ≡ q → (m.txns t).stage ≡ Copying run → run.replaced k cell ≡ true → KnowsCopy m q k cell
  Cleared : (j : ℕ) → (m.phases q).cleared k cell j ≡ true → KnowsCopy m q k cell

pub record Knows (m : State) (q k : ℕ) (cell : Cell) : Type 0 where
  pub one : 1 ≤ q
  pub low : q ≤ m.ended
  pub covers : has_cell (m.phases q).cells cell ≡ true
  pub writes : MayWrite m q
  pub copy : KnowsCopy m q k cell

-- the rows of a grant that is on its way, of one that was handed in, and of a later lock phase
pub record ShowsKnown (m : State) : Type 0 where
  pub coming : (k : ℕ) (lock : BrickLock) (rows : Cell → Row) → IsShowing lock rows (m.bricks k).outputs → is_current (m.links k lock.by.graph) lock.by.connection ≡ true →
      (q : ℕ) (cell : Cell) → has_cell lock.cells cell ≡ true → Knows m q k cell → (rows cell).present ≡ true
  pub handed : (t k : ℕ) (grant : Grant) → Holds m t k grant → is_gathering (m.txns t).stage ≡ true → (q : ℕ) (cell : Cell) → has_cell grant.cells cell ≡ true → Knows m q k cell → (grant.rows cell).present ≡ true
  pub ended : (p q k : ℕ) (cell : Cell) → p ≤ m.ended → q < p → has_cell (m.phases p).cells cell ≡ true → (m.phases p).reached k ≡ true → Knows m q k cell → ((m.phases p).rows k cell).present ≡ true

abbrev pub EveryKnownIsShown : Type 0
EveryKnownIsShown = (size : Size) (m : State) → IsReached size m → ShowsKnown m

-- the lock phase that marked a change wrote, once the change became unsettled
abbrev pub MarksWrote : State → Type 0
MarksWrote m = (p u : ℕ) → 1 ≤ p → p ≤ m.ended → (m.phases p).decides ≡ ByPosts u → was_unsettled (m.changes u).verdict ≡ true → (m.phases p).wrote ≡ true

abbrev pub EveryMarkWrote : Type 0
EveryMarkWrote = (size : Size) (m : State) → IsSize size → IsReached size m → MarksWrote m
