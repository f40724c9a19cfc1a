-- A job stays what it is, whatever its turns do: where it works, for which call, and what it is to do.
use Rattle.std.specs.Prelude.{◌≡◌, ℕ, List}
use Rattle.fop_types.specs.declared.cells.Cell.{Cell}
use Rattle.fop_types.specs.declared.contents.Mask.{Mask}
use Rattle.fop_types.specs.declared.copy_jobs.CopyDone.{CopyDone}
use Rattle.fop_types.specs.declared.jobs.Job.{Job}
use Rattle.fop_types.specs.declared.jobs.SetPlan.{SetPlan}
use Rattle.fop_types.specs.declared.messages.BrickRep.{BrickRep}
use Rattle.afr_ledger.specs.Ledger.{State}
use Rattle.afr_transaction.specs.declared.size.Size.{Size}
use Rattle.afr_transaction.specs.declared.txn.Txn.{Txn}
use Rattle.afr_transaction.specs.Answers.{answered, copied}
use Rattle.afr_transaction.specs.Begins.{fresh, started}

pub record IsSameJob (before after : Txn) : Type 0 where
  pub set : after.set ≡ before.set
  pub size : after.size ≡ before.size
  pub bricks : after.bricks ≡ before.bricks
  pub call : after.call ≡ before.call
  pub job : after.job ≡ before.job

abbrev pub BeginsStay : Type 0
BeginsStay = (size : Size) (set : SetPlan) (call : ℕ) (job : Job) (ledger : State Cell) (live : Mask) (last : List ℕ)
    → IsSameJob (fresh size set call job) (started (fresh size set call job) ledger live last).0

abbrev pub AnswersStay : Type 0
AnswersStay = (txn : Txn) (k mark : ℕ) (rep : BrickRep) (ledger : State Cell) (live : Mask) (last : List ℕ)
    → IsSameJob txn (answered txn k rep mark ledger live last).0

abbrev pub CopiesStay : Type 0
CopiesStay = (txn : Txn) (done : CopyDone) (ledger : State Cell) (live : Mask) (last : List ℕ)
    → IsSameJob txn (copied txn done ledger live last).0
