-- What the locks of a transaction are for: the cells of its work, and their kind. Ours.
use Rattle.std.specs.Prelude.{◌≡◌, ℕ, Bool, true, false, List, Some}
use Rattle.fop_types.specs.declared.cells.Cell.{Cell}
use Rattle.fop_types.specs.declared.jobs.Job.{Job}
use Rattle.afr_machine.specs.Touching.{has_cell}
use Rattle.afr_machine.specs.Changes.{Change}
use Rattle.afr_machine.specs.Transactions.{Work, Stage, Grant, Txn, locks_shared}
use Rattle.afr_machine.specs.Transactions.Work.{Own, Settles}
use Rattle.afr_machine.specs.Transactions.Stage.{Locking, Marking, Applying, Posting, Settling, Bearing, Copying}
use Rattle.afr_machine.specs.States.{State}
use Rattle.afr_machine.specs.Births.{cells_of_work}

-- whether the locks of the work are shared: a read's own are
abbrev pub shares_of : Job → Work → Bool
shares_of own Own = locks_shared own
shares_of own (Settles u) = false

-- the locks that are asked are of the kind of the work
abbrev pub AsksShared : Stage → Bool → Type 0
AsksShared (Locking cells shared next) shares = shared ≡ shares
AsksShared other shares = Unit {0}

-- something holds of the cells that are copied
abbrev pub OnRun : (List Cell → Type 0) → Stage → Type 0
OnRun P (Copying run) = P run.cells
OnRun P other = Unit {0}

-- each of the cells that are copied is one of these
abbrev pub AreCellsOf : List Cell → List Cell → Type 0
AreCellsOf cells copied = (cell : Cell) → has_cell copied cell ≡ true → has_cell cells cell ≡ true

-- a stage that changes copies or counters
abbrev pub changes_in : Stage → Bool
changes_in (Marking change) = true
changes_in (Applying change) = true
changes_in (Posting change) = true
changes_in (Settling change group adopts) = true
changes_in Bearing = true
changes_in (Copying run) = true
changes_in other = false

-- the grant is over the cells of the work, and of its kind
pub record IsOfWork (cells : List Cell) (shares : Bool) (grant : Grant) : Type 0 where
  pub over : grant.cells ≡ cells
  pub kind : grant.shared ≡ shares

pub record KnowsWork (changes : ℕ → Change) (x : Txn) : Type 0 where
  pub asks : AsksShared x.stage (shares_of x.job x.work)
  pub copies : OnRun (AreCellsOf (cells_of_work changes x x.work)) x.stage
  pub exclusive : changes_in x.stage ≡ true → shares_of x.job x.work ≡ false
  pub grants : (k : ℕ) (grant : Grant) → x.grants k ≡ Some grant → IsOfWork (cells_of_work changes x x.work) (shares_of x.job x.work) grant

abbrev pub EachKnowsWork : State → Type 0
EachKnowsWork m = (t : ℕ) → KnowsWork m.changes (m.txns t)
