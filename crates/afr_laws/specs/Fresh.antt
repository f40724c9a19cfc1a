-- What is known of a transaction's lock phase, and that only a lock phase that wrote leaves accusers and changes. Ours.
use Rattle.std.specs.Prelude.{◌≡◌, ◌≤◌, ℕ, Bool, true, false, List}
use Rattle.fop_types.specs.declared.cells.Cell.{Cell}
use Rattle.afr_machine.specs.Replicas.{Size, IsSize}
use Rattle.afr_machine.specs.Touching.{has_cell}
use Rattle.afr_machine.specs.Copies.{changes_of, has_change}
use Rattle.afr_machine.specs.Bricks.{Brick}
use Rattle.afr_machine.specs.Changes.{Change}
use Rattle.afr_machine.specs.Phases.{Phase}
use Rattle.afr_machine.specs.Transactions.{Work, Stage, Txn}
use Rattle.afr_machine.specs.Transactions.Work.{Own, Settles}
use Rattle.afr_machine.specs.Transactions.Stage.{Locking, Locked, Marking, Applying, Posting, Settling, Bearing, Copying}
use Rattle.afr_machine.specs.States.{State}
use Rattle.afr_machine.specs.Births.{cells_of_work}
use Rattle.afr_machine.specs.Steps.{IsReached}
use Rattle.afr_laws.specs.Senders.{EachInput}
use Rattle.afr_laws.specs.Rows.{accuses_at, adds}
use Rattle.afr_laws.specs.OwnChanges.{was_unsettled}

-- ---- the lock phase of a transaction

-- the stages behind the lock phase, while the locks are held
abbrev pub is_behind : Stage → Bool
is_behind Locked = true
is_behind (Marking change) = true
is_behind (Applying change) = true
is_behind (Posting change) = true
is_behind (Settling change group adopts) = true
is_behind Bearing = true
is_behind (Copying run) = true
is_behind other = false

-- its own change goes with its own work, a settling with that change
abbrev pub IsWorkOf : Stage → Work → Type 0
IsWorkOf (Marking change) work = work ≡ Own
IsWorkOf (Applying change) work = work ≡ Own
IsWorkOf (Posting change) work = work ≡ Own
IsWorkOf (Settling change group adopts) work = work ≡ Settles change
IsWorkOf other work = Unit {0}

-- the locks that are asked are those of the work
abbrev pub AsksFor : Stage → List Cell → Type 0
AsksFor (Locking cells shared next) work_cells = cells ≡ work_cells
AsksFor other work_cells = Unit {0}

-- a mark was sent, where one is awaited or was confirmed
abbrev pub HasWritten : Txn → Stage → Bool → Type 0
HasWritten x (Marking change) wrote = ((k : ℕ) → x.waits k ≡ true → wrote ≡ true) × ((k : ℕ) → x.confirmed k ≡ true → wrote ≡ true)
HasWritten x other wrote = Unit {0}

pub record KnowsPhase (changes : ℕ → Change) (phases : ℕ → Phase) (ended : ℕ) (x : Txn) : Type 0 where
  pub low : x.phase ≤ ended
  pub work : IsWorkOf x.stage x.work
  pub asks : AsksFor x.stage (cells_of_work changes x x.work)
  pub cells : is_behind x.stage ≡ true → (phases x.phase).cells ≡ cells_of_work changes x x.work
  pub wrote : HasWritten x x.stage (phases x.phase).wrote

abbrev pub EachKnowsPhase : State → Type 0
EachKnowsPhase m = (t : ℕ) → KnowsPhase m.changes m.phases m.ended (m.txns t)

-- ---- cells over which a lock phase wrote

-- a lock phase over the cell sent a mark, post, settle, replacement or clear
pub record IsWritten (phases : ℕ → Phase) (ended : ℕ) (cell : Cell) : Type 0 where
  pub phase : ℕ
  pub low : phase ≤ ended
  pub wrote : (phases phase).wrote ≡ true
  pub covers : has_cell (phases phase).cells cell ≡ true

-- a brick accuses only on cells that were written, in its rows and by what is in its line
pub record AccusesWritten (written : Cell → Type 0) (b : Brick) : Type 0 where
  pub rows : (cell : Cell) (i : ℕ) → accuses_at b.store cell i ≡ true → written cell
  pub line : EachInput (λ by ask. (cell : Cell) (i : ℕ) → adds ask cell i ≡ true → written cell) b.line

-- a cell over which no lock phase wrote has no accuser in any row or line, and no change in any copy
pub record FreshCell (m : State) : Type 0 where
  pub accusers : (k : ℕ) → AccusesWritten (IsWritten m.phases m.ended) (m.bricks k)
  pub changes : (u : ℕ) (cell : Cell) → was_unsettled (m.changes u).verdict ≡ true → has_cell (m.changes u).cells cell ≡ true → IsWritten m.phases m.ended cell
  pub copies : (k u : ℕ) (cell : Cell) → has_change (changes_of ((m.bricks k).store cell).copy) u ≡ true → IsWritten m.phases m.ended cell

abbrev pub EveryCellIsFresh : Type 0
EveryCellIsFresh = (size : Size) (m : State) → IsSize size → IsReached size m → FreshCell m
