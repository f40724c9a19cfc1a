-- The numbers of changes that transactions name were drawn. Ours.
use Rattle.std.specs.Prelude.{◌≡◌, ◌≤◌, ◌<◌, ℕ}
use Rattle.afr_machine.specs.Changes.Verdict.{Undrawn}
use Rattle.afr_machine.specs.Transactions.{Work, Stage, Txn}
use Rattle.afr_machine.specs.Transactions.Work.{Own, Settles}
use Rattle.afr_machine.specs.Transactions.Stage.{Marking, Applying, Posting, Settling}
use Rattle.afr_machine.specs.States.{State}

-- the change that a stage is about, 0 where it is about none
abbrev pub change_in : Stage → ℕ
change_in (Marking change) = change
change_in (Applying change) = change
change_in (Posting change) = change
change_in (Settling change group adopts) = change
change_in other = 0

abbrev pub change_of : Work → ℕ
change_of Own = 0
change_of (Settles change) = change

pub record NamesDrawn (drawn : ℕ) (x : Txn) : Type 0 where
  pub stage : change_in x.stage ≤ drawn
  pub work : change_of x.work ≤ drawn

-- a number that no transaction drew is nobody's, and is that of no change
pub record ChangesAreDrawn (m : State) : Type 0 where
  pub names : (t : ℕ) → NamesDrawn m.drawn (m.txns t)
  pub beyond : (u : ℕ) → m.drawn < u → (m.changes u).verdict ≡ Undrawn
