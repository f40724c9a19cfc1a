-- The begin of a job.
use Rattle.std.specs.Prelude.{◌≡◌, ℕ, ◌+◌, ◌-◌, ◌≤◌, Bool, true, false, not, List, [], ◌∷◌, ◌++◌, Option, Some, None, is_none, is_some, length, slice_get, if◌then◌else◌}
use Rattle.fop_types.specs.declared.cells.Cell.{Cell}
use Rattle.fop_types.specs.declared.contents.Mask.{Mask}
use Rattle.fop_types.specs.declared.jobs.SetReply.TheVariants as reply
use Rattle.afr_ledger.specs.Ledger.{State}
use Rattle.afr_transaction.specs.declared.need.Need.{Need}
use Rattle.afr_transaction.specs.declared.need.Need.TheVariants as need
use Rattle.afr_transaction.specs.declared.phase.Phase.{Phase}
use Rattle.afr_transaction.specs.declared.phase.Phase.TheVariants as phase
use Rattle.afr_transaction.specs.declared.phase.Then.{Then}
use Rattle.afr_transaction.specs.declared.phase.Then.TheVariants as next
use Rattle.afr_transaction.specs.declared.txn.Txn.{Txn}
use Rattle.afr_transaction.specs.Txns.{alive}
use Rattle.fop_types.specs.declared.jobs.Job.{Job}
use Rattle.fop_types.specs.declared.jobs.SetPlan.{SetPlan}
use Rattle.afr_phases.specs.Locks.{no_locks}
use Rattle.afr_phases.specs.Outs.{no_outs}
use Rattle.afr_phases.specs.Shown.{nothing_shown}
use Rattle.afr_phases.specs.Waves.{quiet}
use Rattle.afr_transaction.specs.declared.jobs.Kind.{Kind}
use Rattle.afr_transaction.specs.declared.jobs.Kind.TheVariants as kind
use Rattle.afr_transaction.specs.declared.size.Size.{Size}
use Rattle.afr_transaction.specs.Jobs.{kind_of}
use Rattle.afr_transaction.specs.Locked.{again}
use Rattle.afr_transaction.specs.Polls.{polled, opening, listing}

-- a job of a set that knows nothing of its replicas yet
abbrev pub fresh : Size → SetPlan → ℕ → Job → Txn
fresh size set call job = record {
  set = set.number;
  size = size;
  bricks = set.bricks;
  call = call;
  job = job;
  outs = no_outs;
  locks = no_locks;
  wave = quiet;
  cells = [];
  settles = None;
  shown = nothing_shown;
  records = [];
  phase = phase.Over;
}

-- the first turn: an open and an index ask every live replica; any other job settles or locks first
abbrev pub started_by : Kind → Txn → State Cell → Mask → List ℕ → Txn × Need
started_by kind.Read txn ledger live last = again txn ledger live last
started_by kind.Change txn ledger live last = again txn ledger live last
started_by kind.Birth txn ledger live last = again txn ledger live last
started_by kind.Heal txn ledger live last = again txn ledger live last
started_by (kind.Open fd gfid) txn ledger live last = opening (polled txn live last) fd gfid
started_by kind.Index txn ledger live last = listing (polled txn live last)

abbrev pub started : Txn → State Cell → Mask → List ℕ → Txn × Need
started txn ledger live last = started_by (kind_of txn.job) txn ledger live last

-- a job has begun: on a set of this size, with its first turn
pub record IsBegun (txn : Txn) (need : Need) (set : SetPlan) (call : ℕ) (job : Job) (ledger : State Cell) (live : Mask) (last : List ℕ) : Type 0 where
  pub size : Size
  pub replicas : size.n ≡ length set.bricks
  pub quorum : size.q ≡ set.q
  pub turn : ◌≡◌ {A = Txn × Need} (txn, need) (started (fresh size set call job) ledger live last)
