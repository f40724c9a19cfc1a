-- An I/O error for lack of replicas lists all that are out: as it is decided on, each that was out before the turn, and by what was
-- handed in to the turn, is out for the job that the error lists.
use Rattle.std.specs.Prelude.{◌≡◌, ℕ, true, if◌then◌else◌, List, Option, Some, None, slice_index_or}
use Rattle.fop_types.specs.declared.answers.IoError.{IoError}
use Rattle.fop_types.specs.declared.cells.Cell.{Cell}
use Rattle.fop_types.specs.declared.contents.Mask.{Mask}
use Rattle.fop_types.specs.declared.copy_jobs.CopyDone.{CopyDone}
use Rattle.fop_types.specs.declared.copy_jobs.Out.{Out}
use Rattle.fop_types.specs.declared.jobs.SetReply.{SetReply}
use Rattle.fop_types.specs.declared.jobs.SetReply.TheVariants as reply
use Rattle.fop_types.specs.declared.messages.BrickRep.{BrickRep}
use Rattle.afr_ledger.specs.Ledger.{State}
use Rattle.afr_phases.specs.declared.outs.Outs.{Outs}
use Rattle.afr_phases.specs.Answers.{is_fault}
use Rattle.afr_phases.specs.Outs.{left}
use Rattle.afr_phases.specs.Waves.{is_asked}
use Rattle.afr_transaction.specs.declared.txn.Txn.{Txn}
use Rattle.afr_transaction.specs.Answers.{answered, copied}
use Rattle.afr_transaction.specs.Causes.{IsCause, IsThen, Tracks, reply_in, reply_of}
use Rattle.afr_transaction.specs.Copies.{with_outs}
use Rattle.afr_transaction.specs.Requests.{Keeps}
use Rattle.afr_transaction.specs.Shapes.{is_asking, is_copying}
use Rattle.txn_laws.specs.Granted.{is_as_asked}
use Rattle.txn_laws.specs.Own.{IsSameJob}

-- each that was out is out still, with the same mark
abbrev pub AreOutStill : Outs → Outs → Type 0
AreOutStill before after = (k : ℕ) (out : Out) → slice_index_or before.at k None ≡ Some out → slice_index_or after.at k None ≡ Some out

-- the error of a reply, or why an index falls short
abbrev pub error_in : SetReply → Option IoError
error_in (reply.Contents contents place) = None
error_in (reply.Decided number) = None
error_in reply.Opened = None
error_in (reply.Listed cells answered short) = short
error_in (reply.Healed records) = None
error_in (reply.Skipped cause) = None
error_in (reply.Io error) = Some error

-- the job of a transaction that decided on an error, with all that are out by then
pub record ListsAll (txn now : Txn) (ledger : State Cell) (error : IoError) (outs : Outs) : Type 0 where
  pub job : Txn
  pub is : IsThen now job
  pub own : IsSameJob txn job
  pub cause : IsCause job ledger error
  pub all : AreOutStill outs job.outs

-- with the answer, where it was not as asked
abbrev pub AnswersList : Type 0
AnswersList = (txn : Txn) (k mark : ℕ) (rep : BrickRep) (ledger : State Cell) (live : Mask) (last : List ℕ) (r : SetReply) (error : IoError)
    → is_asking txn ≡ true → Keeps txn → Tracks txn → is_asked txn.wave k ≡ true → reply_in txn.phase ≡ None
    → reply_of (answered txn k rep mark ledger live last).0 (answered txn k rep mark ledger live last).1.0 ≡ Some r → error_in r ≡ Some error
    → ListsAll txn (answered txn k rep mark ledger live last).0 (answered txn k rep mark ledger live last).1.1 error
    (if is_as_asked txn.phase txn.cells rep then txn.outs else left txn.outs k (is_fault rep) mark)

abbrev pub CopiesList : Type 0
CopiesList = (txn : Txn) (done : CopyDone) (ledger : State Cell) (live : Mask) (last : List ℕ) (r : SetReply) (error : IoError)
    → is_copying txn ≡ true → Keeps txn
    → reply_of (copied txn done ledger live last).0 (copied txn done ledger live last).1.0 ≡ Some r → error_in r ≡ Some error
    → ListsAll txn (copied txn done ledger live last).0 (copied txn done ledger live last).1.1 error (with_outs txn.size.n txn.outs done.outs)
