-- The record that the machine has of a transaction, at the moment after a turn that sends requests, before the first of them
-- is sent. Each clause is about something that both keep. The stage of a copy, which `self_heal` runs, is left open, and so is
-- that of a transaction that has answered.
use Rattle.std.specs.Prelude.{◌≡◌, ℕ, ◌<◌, Bool, true, false, ◌&&◌, List, Option, Some, None, is_none, slice_get, slice_index, slice_index_or}
use Rattle.fop_types.specs.StoreOps.{births}
use Rattle.fop_types.specs.Jobs.{cells_of}
use Rattle.fop_types.specs.declared.cells.Cell.{Cell}
use Rattle.fop_types.specs.declared.contents.Mask.{Mask}
use Rattle.fop_types.specs.declared.jobs.Job.{Job}
use Rattle.fop_types.specs.declared.jobs.Job.TheVariants as job
use Rattle.afr_ledger.specs.Changes.{numbered}
use Rattle.afr_ledger.specs.Ledger.{State as Ledger}
use Rattle.afr_ledger.specs.declared.unsettled.Unsettled.{Unsettled}
use Rattle.afr_machine.specs.Births.{cells_of_work, AreLeftAlone}
use Rattle.afr_machine.specs.Changes.{Change, is_unsettled}
use Rattle.afr_machine.specs.Phases.{Phase as LockPhase, shown_in}
use Rattle.afr_machine.specs.Replicas.{Size}
use Rattle.afr_machine.specs.States.{State, link_of, phase_of}
use Rattle.afr_machine.specs.Transactions.{Grant, Stage, Work}
use Rattle.afr_phases.specs.Flags.{flag, names}
use Rattle.afr_phases.specs.Outs.{is_out}
use Rattle.afr_phases.specs.Shown.{shown_at}
use Rattle.afr_phases.specs.Waves.{is_asked}
use Rattle.afr_transaction.specs.declared.phase.Phase.{Phase}
use Rattle.afr_transaction.specs.declared.phase.Phase.TheVariants as phase
use Rattle.afr_transaction.specs.declared.txn.Txn.{Txn}
use Rattle.afr_transaction.specs.Locked.{is_read}

-- ---- phases

abbrev pub IsStageOf : Phase → Txn → Stage → Type 0
IsStageOf (phase.Locking at) txn stage = stage ≡ Stage.Locking txn.cells (is_read txn.job && is_none txn.settles) at
IsStageOf (phase.Unlocking after) txn stage = stage ≡ Stage.Unlocking
IsStageOf (phase.Fetching place from contents) txn stage = stage ≡ Stage.Locked
IsStageOf (phase.Copying sinks rest) txn stage = Unit {0}
IsStageOf (phase.Marking change) txn stage = stage ≡ Stage.Marking change
IsStageOf (phase.Writing change) txn stage = stage ≡ Stage.Applying change
IsStageOf (phase.Posting change adopted) txn stage = stage ≡ Stage.Posting change
IsStageOf (phase.Settling verdict) txn stage = stage ≡ Stage.Settling verdict.change (flag verdict.group) verdict.held
IsStageOf phase.Bearing txn stage = stage ≡ Stage.Bearing
IsStageOf phase.Opening txn stage = stage ≡ Stage.Polling
IsStageOf (phase.Listing all) txn stage = stage ≡ Stage.Polling
IsStageOf phase.Over txn stage = Unit {0}

-- the members of a lock phase that has ended are asked, also one that has lost its lock since: its answer is then Gone
abbrev pub asks_members : Phase → Bool
asks_members (phase.Locking at) = false
asks_members (phase.Unlocking after) = false
asks_members (phase.Fetching place from contents) = true
asks_members (phase.Copying sinks rest) = false
asks_members (phase.Marking change) = true
asks_members (phase.Writing change) = true
asks_members (phase.Posting change adopted) = true
asks_members (phase.Settling verdict) = true
asks_members phase.Bearing = true
asks_members phase.Opening = false
asks_members (phase.Listing all) = false
asks_members phase.Over = false

-- several replicas are asked at once; locks and contents are asked of one replica after another
abbrev pub asks_at_once : Phase → Bool
asks_at_once (phase.Locking at) = false
asks_at_once (phase.Unlocking after) = true
asks_at_once (phase.Fetching place from contents) = false
asks_at_once (phase.Copying sinks rest) = false
asks_at_once (phase.Marking change) = true
asks_at_once (phase.Writing change) = true
asks_at_once (phase.Posting change adopted) = true
asks_at_once (phase.Settling verdict) = true
asks_at_once phase.Bearing = true
asks_at_once phase.Opening = true
asks_at_once (phase.Listing all) = true
asks_at_once phase.Over = false

-- the number of its own change, in the phases in which that is marked, applied and posted
abbrev pub own_in : Phase → Option ℕ
own_in (phase.Locking at) = None
own_in (phase.Unlocking after) = None
own_in (phase.Fetching place from contents) = None
own_in (phase.Copying sinks rest) = None
own_in (phase.Marking change) = Some change
own_in (phase.Writing change) = Some change
own_in (phase.Posting change adopted) = Some change
own_in (phase.Settling verdict) = None
own_in phase.Bearing = None
own_in phase.Opening = None
own_in (phase.Listing all) = None
own_in phase.Over = None

-- ---- the record

abbrev pub work_of : Option ℕ → Work
work_of None = Work.Own
work_of (Some change) = Work.Settles change

abbrev pub connection_of : Option Grant → Option ℕ
connection_of None = None
connection_of (Some grant) = Some grant.connection

-- the lock phase reached whom the transaction reached, and these showed the same rows
pub record IsShownBy (size : Size) (ended : LockPhase) (txn : Txn) : Type 0 where
  pub reached : (k : ℕ) → k < size.replicas → ended.reached k ≡ flag txn.shown.reached k
  pub rows : (k c : ℕ) (cell : Cell) → k < size.replicas → slice_get txn.cells c ≡ Some cell → shown_in ended cell k ≡ shown_at txn.shown c k

-- the change was drawn for the job
pub record IsDrawnFor (change : Change) (j : Job) : Type 0 where
  pub fd : ℕ
  pub is : j ≡ job.Change change.cells fd change.op change.effect

-- The record of a transaction: the size of its set; its job, its work and how far it has come; the cells that it locks;
-- no replica is out there that is used here; grants by the connections of the locks; those who are asked owe no answer, and the
-- request of a phase that asks several at once is still to be sent to them; its lock phase; its own change.
pub record IsRecordOf (size : Size) (m : State) (t : ℕ) (txn : Txn) : Type 0 where
  pub replicas : size.replicas ≡ txn.size.n
  pub quorum : size.quorum ≡ txn.size.q
  pub job_is : (m.txns t).job ≡ txn.job
  pub work_is : (m.txns t).work ≡ work_of txn.settles
  pub stage : IsStageOf txn.phase txn (m.txns t).stage
  pub cells : cells_of_work m.changes (m.txns t) (m.txns t).work ≡ txn.cells
  pub outs : (k : ℕ) → k < size.replicas → (m.txns t).out k ≡ true → is_out txn.outs k ≡ true
  pub grants : (k : ℕ) → connection_of ((m.txns t).grants k) ≡ slice_index_or txn.locks.at k None
  pub answered : (k : ℕ) → is_asked txn.wave k ≡ true → (m.txns t).waits k ≡ false
  pub is_left : asks_at_once txn.phase ≡ true → (k : ℕ) → is_asked txn.wave k ≡ true → (m.txns t).left k ≡ true
  pub shown : asks_members txn.phase ≡ true → IsShownBy size (phase_of m t) txn
  pub own : (u : ℕ) → own_in txn.phase ≡ Some u → IsDrawnFor (m.changes u) txn.job

-- ---- what a transaction is told

-- whether a connection is open, and the number of the last one
pub record AreLinksOf (size : Size) (m : State) (t : ℕ) (live : Mask) (last : List ℕ) : Type 0 where
  pub opened : (k : ℕ) → k < size.replicas → (link_of m t k).is_open ≡ names live k
  pub lasts : (k : ℕ) → k < size.replicas → (link_of m t k).last ≡ slice_index last k

-- the set's changes that are unsettled by the ledger are so
abbrev pub IsLedgerOf : State → ℕ → Ledger Cell → Type 0
IsLedgerOf m set ledger = (u : ℕ) (change : Unsettled Cell) → numbered u ledger.unsettled ≡ Some change → change.set ≡ set → is_unsettled (m.changes u).verdict ≡ true

-- Nobody else works on the cells to which the op of a change gives birth. A premise where the op is sent: it is about all
-- transactions of the set, and is kept by whoever runs them.
abbrev pub AreBirthsApart : State → ℕ → Job → Type 0
AreBirthsApart m t (job.Read cells fd dir) = Unit {0}
AreBirthsApart m t (job.Change cells fd op effect) = AreLeftAlone m t (cells_of (births op))
AreBirthsApart m t (job.Birth cells op) = Unit {0}
AreBirthsApart m t (job.Open fd gfid) = Unit {0}
AreBirthsApart m t job.Index = Unit {0}
AreBirthsApart m t (job.Heal cell) = Unit {0}
