-- I/O errors have causes. A turn that decides on an I/O error has one of these: too few replicas are left, no number is left
-- for a change, the history is full, or the rows that the replicas showed leave a cell, or a change to be settled, without a
-- sound replica. An error that was decided on before is kept until it is given.
use Rattle.std.specs.Prelude.{◌≡◌, ℕ, true, false, List, Option, Some, None, is_some, slice_index_or}
use Rattle.fop_types.specs.declared.answers.IoError.{IoError}
use Rattle.fop_types.specs.declared.answers.IoError.TheVariants as io
use Rattle.fop_types.specs.declared.cells.Cell.{Cell}
use Rattle.fop_types.specs.declared.contents.Mask.{Mask}
use Rattle.fop_types.specs.declared.copy_jobs.CopyDone.{CopyDone}
use Rattle.fop_types.specs.declared.copy_jobs.Out.{Out}
use Rattle.fop_types.specs.declared.jobs.Job.{Job}
use Rattle.fop_types.specs.declared.jobs.SetPlan.{SetPlan}
use Rattle.fop_types.specs.declared.jobs.SetReply.{SetReply}
use Rattle.fop_types.specs.declared.jobs.SetReply.TheVariants as reply
use Rattle.fop_types.specs.declared.messages.BrickRep.{BrickRep}
use Rattle.afr_ledger.specs.Ledger.{State}
use Rattle.afr_phases.specs.Flags.{flag, lowest}
use Rattle.afr_phases.specs.Outs.{is_short}
use Rattle.afr_phases.specs.Shown.{rows_listed}
use Rattle.afr_phases.specs.Tracked.{IsTracked}
use Rattle.afr_phases.specs.Waves.{is_asked}
use Rattle.afr_transaction.specs.declared.jobs.Kind.TheVariants as kind
use Rattle.afr_transaction.specs.declared.need.Need.{Need}
use Rattle.afr_transaction.specs.declared.need.Need.TheVariants as need
use Rattle.afr_transaction.specs.declared.phase.Phase.{Phase}
use Rattle.afr_transaction.specs.declared.phase.Phase.TheVariants as phase
use Rattle.afr_transaction.specs.declared.phase.Then.{Then}
use Rattle.afr_transaction.specs.declared.phase.Then.TheVariants as next
use Rattle.afr_transaction.specs.declared.size.Size.{Size}
use Rattle.afr_transaction.specs.declared.txn.Txn.{Txn}
use Rattle.afr_transaction.specs.Answers.{answered, copied}
use Rattle.afr_transaction.specs.Begins.{fresh, started}
use Rattle.afr_transaction.specs.Changes.{has_number, has_room}
use Rattle.afr_transaction.specs.Jobs.{kind_of}
use Rattle.afr_transaction.specs.Parts.{common_of, is_split}
use Rattle.afr_transaction.specs.Reads.{is_split_read, split_rows}
use Rattle.afr_transaction.specs.Requests.{Keeps}
use Rattle.afr_transaction.specs.Shapes.{is_asking, is_copying}
use Rattle.afr_transaction.specs.Txns.{alive, io_of}

-- ---- the causes

-- The cause of an error, by the job as it decided on it and the ledger. An error for lack of replicas lists each that is out,
-- by rising brick, with the mark with which it went out (`io_of`), also where no number is left or the history is full; a
-- split lists the rows that the reached replicas showed.
pub data IsCause (job : Txn) (ledger : State Cell) (error : IoError) : Type 0 where
  FewLeft : is_short job.outs job.size.n job.size.q ≡ true → error ≡ io_of job → IsCause job ledger error
  NoNumber : has_number ledger ≡ false → error ≡ io_of job → IsCause job ledger error
  FullHistory : has_room ledger ≡ false → error ≡ io_of job → IsCause job ledger error
  BareCell : job.settles ≡ None → kind_of job.job ≡ kind.Change → is_split job 0 job.cells ≡ true → error ≡ io.Split job.set (rows_listed job.shown job.bricks 0 job.cells) → IsCause job ledger error
  BareRead : job.settles ≡ None → kind_of job.job ≡ kind.Read → is_split_read job 0 job.cells ≡ true → error ≡ io.Split job.set (split_rows job 0 job.cells) → IsCause job ledger error
  BareChange : is_some job.settles ≡ true → lowest (common_of job) ≡ None → error ≡ io.Split job.set (rows_listed job.shown job.bricks 0 job.cells) → IsCause job ledger error

-- The job that decided, seen from the end of the turn: since then it released its locks at most, and who was out is out still,
-- with the same mark.
pub record IsThen (now job : Txn) : Type 0 where
  pub set : job.set ≡ now.set
  pub bricks : job.bricks ≡ now.bricks
  pub size : job.size ≡ now.size
  pub cells : job.cells ≡ now.cells
  pub settles : job.settles ≡ now.settles
  pub shown : job.shown ≡ now.shown
  pub outs : (k : ℕ) → (out : Out) → slice_index_or job.outs.at k None ≡ Some out → slice_index_or now.outs.at k None ≡ Some out

pub record HasCause (now : Txn) (ledger : State Cell) (error : IoError) : Type 0 where
  pub job : Txn
  pub is : IsThen now job
  pub cause : IsCause job ledger error

abbrev pub ShortHasCause : Txn → State Cell → Option IoError → Type 0
ShortHasCause now ledger None = Unit {0}
ShortHasCause now ledger (Some error) = HasCause now ledger error

abbrev pub ReplyHasCause : Txn → State Cell → SetReply → Type 0
ReplyHasCause now ledger (reply.Contents contents place) = Unit {0}
ReplyHasCause now ledger (reply.Decided number) = Unit {0}
ReplyHasCause now ledger reply.Opened = Unit {0}
ReplyHasCause now ledger (reply.Listed cells answered short) = ShortHasCause now ledger short
ReplyHasCause now ledger (reply.Healed records) = Unit {0}
ReplyHasCause now ledger (reply.Skipped cause) = Unit {0}
ReplyHasCause now ledger (reply.Io error) = HasCause now ledger error

-- ---- the reply of a turn

abbrev pub reply_after : Then → Option SetReply
reply_after (next.Answer r) = Some r
reply_after next.Again = None

-- the reply that a job has decided on, and gives once its locks are released
abbrev pub reply_in : Phase → Option SetReply
reply_in (phase.Locking at) = None
reply_in (phase.Unlocking after) = reply_after after
reply_in (phase.Fetching place from contents) = None
reply_in (phase.Copying sinks rest) = None
reply_in (phase.Marking change) = None
reply_in (phase.Writing change) = None
reply_in (phase.Posting change adopted) = None
reply_in (phase.Settling verdict) = None
reply_in phase.Bearing = None
reply_in phase.Opening = None
reply_in (phase.Listing all) = None
reply_in phase.Over = None

-- the reply that a turn gives, or that it has decided on
abbrev pub reply_of : Txn → Need → Option SetReply
reply_of txn (need.Reply r) = Some r
reply_of txn (need.Send list) = reply_in txn.phase
reply_of txn (need.Copy job rows) = reply_in txn.phase
reply_of txn need.Wait = reply_in txn.phase

abbrev pub DecidedHasCause : Txn → State Cell → Option SetReply → Type 0
DecidedHasCause now ledger None = Unit {0}
DecidedHasCause now ledger (Some r) = ReplyHasCause now ledger r

-- a reply that was decided on before is kept; one that the turn decides on has its cause
abbrev pub IsKeptOrHasCause : Option SetReply → Txn → State Cell → Need → Type 0
IsKeptOrHasCause (Some r) now ledger turned = reply_of now turned ≡ Some r
IsKeptOrHasCause None now ledger turned = DecidedHasCause now ledger (reply_of now turned)

-- ---- what is kept between two turns

-- while a mark, a post or a settle is sent, each replica that is used is asked still or has confirmed it; a content is asked
-- of a replica that is used
abbrev pub TracksIn : Phase → Txn → Type 0
TracksIn (phase.Locking at) txn = Unit {0}
TracksIn (phase.Unlocking after) txn = Unit {0}
TracksIn (phase.Fetching place from contents) txn = flag (alive txn) from ≡ true
TracksIn (phase.Copying sinks rest) txn = Unit {0}
TracksIn (phase.Marking change) txn = IsTracked txn.size.n txn.outs txn.wave
TracksIn (phase.Writing change) txn = Unit {0}
TracksIn (phase.Posting change adopted) txn = IsTracked txn.size.n txn.outs txn.wave
TracksIn (phase.Settling verdict) txn = IsTracked txn.size.n txn.outs txn.wave
TracksIn phase.Bearing txn = Unit {0}
TracksIn phase.Opening txn = Unit {0}
TracksIn (phase.Listing all) txn = Unit {0}
TracksIn phase.Over txn = Unit {0}

abbrev pub Tracks : Txn → Type 0
Tracks txn = TracksIn txn.phase txn

-- ---- the laws

-- a turn keeps it, and what it decides on has its cause, by the ledger as the turn leaves it
abbrev pub BeginsHaveCauses : Type 0
BeginsHaveCauses = (size : Size) (set : SetPlan) (call : ℕ) (job : Job) (ledger : State Cell) (live : Mask) (last : List ℕ)
    → Tracks (started (fresh size set call job) ledger live last).0
    × DecidedHasCause (started (fresh size set call job) ledger live last).0 ledger (reply_of (started (fresh size set call job) ledger live last).0 (started (fresh size set call job) ledger live last).1)

abbrev pub AnswersHaveCauses : Type 0
AnswersHaveCauses = (txn : Txn) (k mark : ℕ) (rep : BrickRep) (ledger : State Cell) (live : Mask) (last : List ℕ)
    → is_asking txn ≡ true → Keeps txn → Tracks txn → is_asked txn.wave k ≡ true
    → Tracks (answered txn k rep mark ledger live last).0
    × IsKeptOrHasCause (reply_in txn.phase) (answered txn k rep mark ledger live last).0 (answered txn k rep mark ledger live last).1.1 (answered txn k rep mark ledger live last).1.0

abbrev pub CopiesHaveCauses : Type 0
CopiesHaveCauses = (txn : Txn) (done : CopyDone) (ledger : State Cell) (live : Mask) (last : List ℕ)
    → is_copying txn ≡ true → Keeps txn
    → Tracks (copied txn done ledger live last).0
    × DecidedHasCause (copied txn done ledger live last).0 (copied txn done ledger live last).1.1 (reply_of (copied txn done ledger live last).0 (copied txn done ledger live last).1.0)
