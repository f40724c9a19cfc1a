-- A split is of this job and of a quorum: in the lock phase whose rows it names at least a quorum was reached, and each that was
-- reached has granted its lock and has shown a row for each cell. And a heal skips its cell for what it names.
use Rattle.std.specs.Prelude.{◌≡◌, ℕ, ◌≤◌, true, List, Some, None, is_some}
use Rattle.fop_types.specs.Orders.{cell_cmp}
use Rattle.fop_types.specs.declared.answers.IoError.{IoError}
use Rattle.fop_types.specs.declared.answers.IoError.TheVariants as io
use Rattle.fop_types.specs.declared.answers.SplitRow.{SplitRow}
use Rattle.fop_types.specs.declared.causes.SkipCause.{SkipCause}
use Rattle.fop_types.specs.declared.causes.SkipCause.TheVariants as skip
use Rattle.fop_types.specs.declared.cells.Cell.{Cell}
use Rattle.fop_types.specs.declared.contents.Mask.{Mask}
use Rattle.fop_types.specs.declared.copy_jobs.CopyDone.{CopyDone}
use Rattle.fop_types.specs.declared.jobs.Job.{Job}
use Rattle.fop_types.specs.declared.jobs.SetPlan.{SetPlan}
use Rattle.fop_types.specs.declared.jobs.SetReply.TheVariants as reply
use Rattle.fop_types.specs.declared.messages.BrickRep.{BrickRep}
use Rattle.afr_ledger.specs.Changes.{touching}
use Rattle.afr_ledger.specs.Ledger.{State}
use Rattle.afr_phases.specs.Flags.{flag}
use Rattle.afr_phases.specs.Waves.{is_asked}
use Rattle.afr_transaction.specs.declared.size.Size.{Size}
use Rattle.afr_transaction.specs.declared.txn.Txn.{Txn}
use Rattle.afr_transaction.specs.Answers.{answered, copied}
use Rattle.afr_transaction.specs.Begins.{fresh, started}
use Rattle.afr_transaction.specs.Causes.{IsCause, IsThen, Tracks, reply_in, reply_of}
use Rattle.afr_transaction.specs.Parts.{is_split}
use Rattle.afr_transaction.specs.Requests.{HasGranted, Keeps}
use Rattle.afr_transaction.specs.Shapes.{is_asking, is_copying}
use Rattle.afr_transaction.specs.Txns.{io_of}
use Rattle.txn_laws.specs.Free.{AllShow, HasItsFree}
use Rattle.txn_laws.specs.Granted.{HasRows, Follows}
use Rattle.txn_laws.specs.Own.{IsSameJob}
use Rattle.txn_laws.specs.Work.{how_many}

-- a lock phase that has reached a quorum
pub record HasQuorum (job : Txn) : Type 0 where
  pub quorum : job.size.q ≤ how_many job.shown.reached
  pub granted : (k : ℕ) → flag job.shown.reached k ≡ true → HasGranted job k
  pub rows : (k : ℕ) → flag job.shown.reached k ≡ true → HasRows job k

-- The job of a transaction that decided on a split, seen from the end of the turn. Where all replicas of its set showed their rows,
-- not each cell has a replica that is free on it.
pub record SplitHasQuorum (txn now : Txn) (ledger : State Cell) (error : IoError) : Type 0 where
  pub job : Txn
  pub is : IsThen now job
  pub own : IsSameJob txn job
  pub reached : HasQuorum job
  pub cause : IsCause job ledger error
  pub bare : AllShow job → HasItsFree job → ⊥

-- why a heal skips its cell: too few replicas are left, or what a change fails for; a cell without a sound replica; or a change on
-- it that is not settled
abbrev pub IsSkipCause : Txn → State Cell → SkipCause → Type 0
IsSkipCause job ledger skip.Majority = IsCause job ledger (io_of job)
IsSkipCause job ledger skip.Split = (is_split job 0 job.cells ≡ true) × HasQuorum job
IsSkipCause job ledger skip.Unsettled = is_some (touching cell_cmp job.set job.cells ledger.unsettled) ≡ true

pub record SkipHasCause (txn now : Txn) (ledger : State Cell) (cause : SkipCause) : Type 0 where
  pub job : Txn
  pub is : IsThen now job
  pub own : IsSameJob txn job
  pub skips : IsSkipCause job ledger cause

-- ---- the laws

-- a job that begins, and a copy that is done, decide on no split
abbrev pub BeginsDoNotSplit : Type 0
BeginsDoNotSplit = (size : Size) (set : SetPlan) (call : ℕ) (job : Job) (ledger : State Cell) (live : Mask) (last : List ℕ) (number : ℕ) (rows : List SplitRow)
    → reply_of (started (fresh size set call job) ledger live last).0 (started (fresh size set call job) ledger live last).1 ≡ Some (reply.Io (io.Split number rows)) → ⊥

abbrev pub CopiesDoNotSplit : Type 0
CopiesDoNotSplit = (txn : Txn) (done : CopyDone) (ledger : State Cell) (live : Mask) (last : List ℕ) (number : ℕ) (rows : List SplitRow)
    → is_copying txn ≡ true → Keeps txn
    → reply_of (copied txn done ledger live last).0 (copied txn done ledger live last).1.0 ≡ Some (reply.Io (io.Split number rows)) → ⊥

-- what an answer decides on: a split of a quorum, and a skip with its cause
abbrev pub AnswersSplit : Type 0
AnswersSplit = (txn : Txn) (k mark : ℕ) (rep : BrickRep) (ledger : State Cell) (live : Mask) (last : List ℕ) (number : ℕ) (rows : List SplitRow)
    → is_asking txn ≡ true → Keeps txn → Tracks txn → is_asked txn.wave k ≡ true → Follows txn → reply_in txn.phase ≡ None
    → reply_of (answered txn k rep mark ledger live last).0 (answered txn k rep mark ledger live last).1.0 ≡ Some (reply.Io (io.Split number rows))
    → SplitHasQuorum txn (answered txn k rep mark ledger live last).0 (answered txn k rep mark ledger live last).1.1 (io.Split number rows)

abbrev pub AnswersSkip : Type 0
AnswersSkip = (txn : Txn) (k mark : ℕ) (rep : BrickRep) (ledger : State Cell) (live : Mask) (last : List ℕ) (cause : SkipCause)
    → is_asking txn ≡ true → Keeps txn → Tracks txn → is_asked txn.wave k ≡ true → Follows txn → reply_in txn.phase ≡ None
    → reply_of (answered txn k rep mark ledger live last).0 (answered txn k rep mark ledger live last).1.0 ≡ Some (reply.Skipped cause)
    → SkipHasCause txn (answered txn k rep mark ledger live last).0 (answered txn k rep mark ledger live last).1.1 cause

abbrev pub CopiesSkip : Type 0
CopiesSkip = (txn : Txn) (done : CopyDone) (ledger : State Cell) (live : Mask) (last : List ℕ) (cause : SkipCause)
    → is_copying txn ≡ true → Keeps txn
    → reply_of (copied txn done ledger live last).0 (copied txn done ledger live last).1.0 ≡ Some (reply.Skipped cause)
    → SkipHasCause txn (copied txn done ledger live last).0 (copied txn done ledger live last).1.1 cause
