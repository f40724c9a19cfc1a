-- The replies of a transaction are within their bounds, where those of its bricks are, whatever was asked: each content is a
-- content, and each listed cell a cell. For it a transaction keeps what the replicas have answered so far within the bounds.
use Rattle.std.specs.Prelude.{◌≡◌, ℕ, true, List}
use Rattle.fop_types.specs.Bounds.{Each, IsCell, IsRep}
use Rattle.fop_types.specs.Jobs.{AreContents, IsSetReply}
use Rattle.fop_types.specs.declared.cells.Cell.{Cell}
use Rattle.fop_types.specs.declared.contents.Mask.{Mask}
use Rattle.fop_types.specs.declared.copy_jobs.CopyDone.{CopyDone}
use Rattle.fop_types.specs.declared.jobs.Job.{Job}
use Rattle.fop_types.specs.declared.jobs.SetPlan.{SetPlan}
use Rattle.fop_types.specs.declared.messages.BrickRep.{BrickRep}
use Rattle.afr_ledger.specs.Ledger.{State}
use Rattle.afr_transaction.specs.declared.need.Need.{Need}
use Rattle.afr_transaction.specs.declared.need.Need.TheVariants as need
use Rattle.afr_transaction.specs.declared.phase.Phase.{Phase}
use Rattle.afr_transaction.specs.declared.phase.Phase.TheVariants as phase
use Rattle.afr_transaction.specs.declared.phase.Then.{Then}
use Rattle.afr_transaction.specs.declared.phase.Then.TheVariants as next
use Rattle.afr_transaction.specs.declared.size.Size.{Size}
use Rattle.afr_transaction.specs.declared.txn.Txn.{Txn}
use Rattle.afr_transaction.specs.Answers.{answered, copied}
use Rattle.afr_transaction.specs.Begins.{fresh, started}

-- ---- between two turns

-- what goes up once the locks are released
abbrev pub ThenFits : Then → Type 0
ThenFits (next.Answer reply) = IsSetReply reply
ThenFits next.Again = Unit {0}

-- what the replicas have answered so far
abbrev pub AnswersIn : Phase → Type 0
AnswersIn (phase.Locking at) = Unit {0}
AnswersIn (phase.Unlocking after) = ThenFits after
AnswersIn (phase.Fetching place from contents) = AreContents contents
AnswersIn (phase.Copying sinks rest) = Unit {0}
AnswersIn (phase.Marking change) = Unit {0}
AnswersIn (phase.Writing change) = Unit {0}
AnswersIn (phase.Posting change adopted) = Unit {0}
AnswersIn (phase.Settling verdict) = Unit {0}
AnswersIn phase.Bearing = Unit {0}
AnswersIn phase.Opening = Unit {0}
AnswersIn (phase.Listing all) = Each IsCell all
AnswersIn phase.Over = Unit {0}

abbrev pub HasAnswers : Txn → Type 0
HasAnswers txn = AnswersIn txn.phase

-- ---- the laws

abbrev pub ReplyFits : Need → Type 0
ReplyFits (need.Reply reply) = IsSetReply reply
ReplyFits (need.Send list) = Unit {0}
ReplyFits (need.Copy job rows) = Unit {0}
ReplyFits need.Wait = Unit {0}

-- a turn keeps the answers within their bounds, and a reply has its own
abbrev pub RepliesFit : Txn → Need → Type 0
RepliesFit txn need = HasAnswers txn × ReplyFits need

abbrev pub BeginsReply : Type 0
BeginsReply = (size : Size) (set : SetPlan) (call : ℕ) (job : Job) (ledger : State Cell) (live : Mask) (last : List ℕ)
    → RepliesFit (started (fresh size set call job) ledger live last).0 (started (fresh size set call job) ledger live last).1

abbrev pub AnswersReply : Type 0
AnswersReply = (txn : Txn) (k mark : ℕ) (rep : BrickRep) (ledger : State Cell) (live : Mask) (last : List ℕ)
    → HasAnswers txn → IsRep true rep → RepliesFit (answered txn k rep mark ledger live last).0 (answered txn k rep mark ledger live last).1.0

abbrev pub CopiesReply : Type 0
CopiesReply = (txn : Txn) (done : CopyDone) (ledger : State Cell) (live : Mask) (last : List ℕ)
    → HasAnswers txn → RepliesFit (copied txn done ledger live last).0 (copied txn done ledger live last).1.0
