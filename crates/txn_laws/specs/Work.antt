-- A job's requests end: a number that each answer and each finished copy lowers, unless the job begins again at its locks.
use Rattle.std.specs.Prelude.{◌≡◌, ℕ, ◌+◌, ◌-◌, ◌*◌, ◌<◌, ◌⊎◌, Bool, true, List, length}
use Rattle.fop_types.specs.declared.cells.Cell.{Cell}
use Rattle.fop_types.specs.declared.contents.Mask.{Mask}
use Rattle.fop_types.specs.declared.copy_jobs.CopyDone.{CopyDone}
use Rattle.fop_types.specs.declared.messages.BrickRep.{BrickRep}
use Rattle.afr_ledger.specs.Ledger.{State}
use Rattle.afr_phases.specs.Flags.{bit, flag}
use Rattle.afr_phases.specs.Waves.{is_asked}
use Rattle.afr_transaction.specs.declared.need.Need.{Need}
use Rattle.afr_transaction.specs.declared.phase.Phase.{Phase}
use Rattle.afr_transaction.specs.declared.phase.Phase.TheVariants as phase
use Rattle.afr_transaction.specs.declared.txn.Txn.{Txn}
use Rattle.afr_transaction.specs.Answers.{answered, copied}
use Rattle.afr_transaction.specs.Causes.{Tracks}
use Rattle.afr_transaction.specs.Locked.{again}
use Rattle.afr_transaction.specs.Requests.{Keeps}
use Rattle.afr_transaction.specs.Shapes.{is_asking, is_copying}
use Rattle.afr_transaction.specs.Txns.{alive}
use Rattle.txn_laws.specs.Own.{IsSameJob}

-- of how many replicas it is true
unfoldable pub how_many : List Bool → ℕ
how_many flags = bit (flag flags 0) + (bit (flag flags 1) + (bit (flag flags 2) + (bit (flag flags 3) + bit (flag flags 4))))

-- How many phases may follow at most, until the locks are released. A read may ask each replica that it uses for each cell
-- that it has not read; a lock phase has its replicas and then what its job does.
abbrev pub phases_left : Phase → Txn → ℕ
phases_left (phase.Locking at) txn = 8 + (6 * length txn.cells + (5 - at))
phases_left (phase.Unlocking after) txn = 1
phases_left (phase.Fetching place from contents) txn = 2 + (6 * (length txn.cells - length contents) + how_many (alive txn))
phases_left (phase.Copying sinks rest) txn = 5 + length rest
phases_left (phase.Marking change) txn = 4
phases_left (phase.Writing change) txn = 3
phases_left (phase.Posting change adopted) txn = 2
phases_left (phase.Settling verdict) txn = 6
phases_left phase.Bearing txn = 2
phases_left phase.Opening txn = 1
phases_left (phase.Listing all) txn = 1
phases_left phase.Over txn = 0

-- each phase has at most five answers
abbrev pub work : Txn → ℕ
work txn = 6 * phases_left txn.phase txn + how_many txn.wave.asked

-- the job begins again, with what it knows after the turn: it settles what touches its cells, and takes its locks anew
pub record BeginsAgain (txn : Txn) (ledger : State Cell) (live : Mask) (last : List ℕ) (after : Txn) (turned : Need) : Type 0 where
  pub job : Txn
  pub own : IsSameJob txn job
  pub after_is : after ≡ (again job ledger live last).0
  pub need_is : turned ≡ (again job ledger live last).1

-- ---- the laws

abbrev pub EachAnswerLeavesLess : Type 0
EachAnswerLeavesLess = (txn : Txn) (k mark : ℕ) (rep : BrickRep) (ledger : State Cell) (live : Mask) (last : List ℕ)
    → is_asking txn ≡ true → Keeps txn → Tracks txn → is_asked txn.wave k ≡ true
    → (work (answered txn k rep mark ledger live last).0 < work txn)
    ⊎ BeginsAgain txn (answered txn k rep mark ledger live last).1.1 live last (answered txn k rep mark ledger live last).0 (answered txn k rep mark ledger live last).1.0

abbrev pub EachCopyLeavesLess : Type 0
EachCopyLeavesLess = (txn : Txn) (done : CopyDone) (ledger : State Cell) (live : Mask) (last : List ℕ)
    → is_copying txn ≡ true
    → (work (copied txn done ledger live last).0 < work txn)
    ⊎ BeginsAgain txn (copied txn done ledger live last).1.1 live last (copied txn done ledger live last).0 (copied txn done ledger live last).1.0
