-- What a phase of a transaction asks of a replica. A request under a lock goes only to a replica that has granted its lock.
-- A post accuses those who are used no more by then: they have not confirmed the op. A settle accuses those outside its
-- group.
use Rattle.std.specs.Prelude.{◌≡◌, ℕ, ◌<◌, nat_lt, Bool, true, false, ◌&&◌, not, List, Option, Some, None, is_none, is_some, slice_get, slice_index_or, length}
use Rattle.fop_types.specs.Bounds.{Each, IsMask}
use Rattle.fop_types.specs.declared.cells.Cell.{Cell}
use Rattle.fop_types.specs.declared.cells.Gfid.{Gfid}
use Rattle.fop_types.specs.declared.contents.Mask.{Mask}
use Rattle.fop_types.specs.declared.copy_jobs.CopyDone.{CopyDone}
use Rattle.fop_types.specs.declared.jobs.Job.{Job}
use Rattle.fop_types.specs.declared.jobs.SetPlan.{SetPlan}
use Rattle.fop_types.specs.declared.messages.BrickRep.{BrickRep}
use Rattle.fop_types.specs.declared.messages.BrickReq.{BrickReq}
use Rattle.fop_types.specs.declared.messages.BrickReq.TheVariants as req
use Rattle.fop_types.specs.declared.store_ops.StoreOp.{StoreOp}
use Rattle.afr_ledger.specs.Ledger.{State}
use Rattle.afr_phases.specs.declared.wave.Wave.{Wave}
use Rattle.afr_phases.specs.Answers.{is_plain_done}
use Rattle.afr_phases.specs.Flags.{flag, names}
use Rattle.afr_phases.specs.Tracked.{IsTracked}
use Rattle.afr_phases.specs.Waves.{is_asked, taken}
use Rattle.afr_transaction.specs.declared.jobs.Kind.TheVariants as kind
use Rattle.afr_transaction.specs.declared.need.Need.{Need}
use Rattle.afr_transaction.specs.declared.need.Need.TheVariants as need
use Rattle.afr_transaction.specs.declared.phase.Phase.{Phase}
use Rattle.afr_transaction.specs.declared.phase.Phase.TheVariants as phase
use Rattle.afr_transaction.specs.declared.size.Size.{Size}
use Rattle.afr_transaction.specs.declared.txn.Txn.{Txn}
use Rattle.afr_transaction.specs.Answers.{answered, copied}
use Rattle.afr_transaction.specs.Begins.{fresh, started}
use Rattle.afr_transaction.specs.Jobs.{kind_of, birth_op, change_op}
use Rattle.afr_transaction.specs.Locked.{is_read}
use Rattle.afr_transaction.specs.Reads.{fd_of}
use Rattle.afr_transaction.specs.Shapes.{is_asking, is_copying}
use Rattle.afr_transaction.specs.Txns.{alive}

-- ---- what is asked

-- the replica has granted its lock
abbrev pub HasGranted : Txn → ℕ → Type 0
HasGranted txn k = is_some (slice_index_or txn.locks.at k None) ≡ true

-- the mask names exactly the replicas of a set of n that are not among these
abbrev pub AccusesBut : Mask → ℕ → List Bool → Type 0
AccusesBut mask n flags = (k : ℕ) → k < 5 → names mask k ≡ (nat_lt k n && not (flag flags k))

pub record IsFetch (txn : Txn) (place : ℕ) (r : BrickReq) : Type 0 where
  pub cell : Cell
  pub at : slice_get txn.cells place ≡ Some cell
  pub is : r ≡ req.Fetch (fd_of txn.job) cell

pub record IsOp (txn : Txn) (change : ℕ) (r : BrickReq) : Type 0 where
  pub op : ℕ × StoreOp
  pub at : ◌≡◌ {A = Option (ℕ × StoreOp)} (change_op txn.job) (Some op)
  pub is : r ≡ req.Op change op.0 op.1

pub record IsBirth (txn : Txn) (r : BrickReq) : Type 0 where
  pub op : StoreOp
  pub at : birth_op txn.job ≡ Some op
  pub is : r ≡ req.Op 0 0 op

-- all but these are accused on the cells of the lock phase
pub record IsPost (txn : Txn) (change : ℕ) (spared : List Bool) (r : BrickReq) : Type 0 where
  pub accused : Mask
  pub small : IsMask accused
  pub exactly : AccusesBut accused txn.size.n spared
  pub is : r ≡ req.Post change txn.cells accused

pub record IsSettle (txn : Txn) (spared : List Bool) (r : BrickReq) : Type 0 where
  pub accused : Mask
  pub small : IsMask accused
  pub exactly : AccusesBut accused txn.size.n spared
  pub is : r ≡ req.Settle txn.cells accused

pub record IsOpen (txn : Txn) (r : BrickReq) : Type 0 where
  pub fd : ℕ
  pub gfid : Gfid
  pub at : kind_of txn.job ≡ kind.Open fd gfid
  pub is : r ≡ req.Open fd gfid

-- the request of a phase to replica k
abbrev pub IsOfPhase : Phase → Txn → ℕ → BrickReq → Type 0
IsOfPhase (phase.Locking at) txn k r = (k ≡ at) × (r ≡ req.Lock txn.call (is_read txn.job && is_none txn.settles) txn.cells)
IsOfPhase (phase.Unlocking after) txn k r = HasGranted txn k × (r ≡ req.Unlock txn.call)
IsOfPhase (phase.Fetching place from contents) txn k r = HasGranted txn k × IsFetch txn (length contents) r
IsOfPhase (phase.Copying sinks rest) txn k r = ⊥
IsOfPhase (phase.Marking change) txn k r = HasGranted txn k × (r ≡ req.Mark change txn.cells)
IsOfPhase (phase.Writing change) txn k r = HasGranted txn k × IsOp txn change r
IsOfPhase (phase.Posting change adopted) txn k r = HasGranted txn k × IsPost txn change (alive txn) r
IsOfPhase (phase.Settling verdict) txn k r = HasGranted txn k × IsSettle txn verdict.group r
IsOfPhase phase.Bearing txn k r = HasGranted txn k × IsBirth txn r
IsOfPhase phase.Opening txn k r = IsOpen txn r
IsOfPhase (phase.Listing all) txn k r = r ≡ req.Index
IsOfPhase phase.Over txn k r = ⊥

-- ---- what is kept between two turns

-- each replica that is used has granted its lock
abbrev pub HoldsLocks : Txn → Type 0
HoldsLocks txn = (k : ℕ) → flag (alive txn) k ≡ true → HasGranted txn k

-- under the locks of a lock phase; and while an op is sent, those who are used are asked still or have confirmed it
abbrev pub KeepsIn : Phase → Txn → Type 0
KeepsIn (phase.Locking at) txn = Unit {0}
KeepsIn (phase.Unlocking after) txn = Unit {0}
KeepsIn (phase.Fetching place from contents) txn = HoldsLocks txn
KeepsIn (phase.Copying sinks rest) txn = HoldsLocks txn
KeepsIn (phase.Marking change) txn = HoldsLocks txn
KeepsIn (phase.Writing change) txn = HoldsLocks txn × IsTracked txn.size.n txn.outs txn.wave
KeepsIn (phase.Posting change adopted) txn = HoldsLocks txn
KeepsIn (phase.Settling verdict) txn = HoldsLocks txn
KeepsIn phase.Bearing txn = HoldsLocks txn
KeepsIn phase.Opening txn = Unit {0}
KeepsIn (phase.Listing all) txn = Unit {0}
KeepsIn phase.Over txn = Unit {0}

pub record Keeps (txn : Txn) : Type 0 where
  pub places : length txn.outs.at ≡ 5
  pub locks : KeepsIn txn.phase txn

-- ---- the laws

-- A turn keeps it, and what it sends is of its phase. A copy is under locks that were granted.
abbrev pub Sends : Txn → Need → Type 0
Sends txn (need.Send list) = Keeps txn × Each (λ (r : ℕ × BrickReq). IsOfPhase txn.phase txn r.0 r.1) list
Sends txn (need.Copy job rows) = Keeps txn × ((k : ℕ) → k < 5 → names job.held k ≡ true → HasGranted txn k)
Sends txn (need.Reply reply) = Unit {0}
Sends txn need.Wait = Keeps txn

abbrev pub BeginsSend : Type 0
BeginsSend = (size : Size) (set : SetPlan) (call : ℕ) (job : Job) (ledger : State Cell) (live : Mask) (last : List ℕ)
    → Sends (started (fresh size set call job) ledger live last).0 (started (fresh size set call job) ledger live last).1

abbrev pub AnswersSend : Type 0
AnswersSend = (txn : Txn) (k mark : ℕ) (rep : BrickRep) (ledger : State Cell) (live : Mask) (last : List ℕ)
    → is_asking txn ≡ true → Keeps txn → is_asked txn.wave k ≡ true
    → Sends (answered txn k rep mark ledger live last).0 (answered txn k rep mark ledger live last).1.0

abbrev pub CopiesSend : Type 0
CopiesSend = (txn : Txn) (done : CopyDone) (ledger : State Cell) (live : Mask) (last : List ℕ)
    → is_copying txn ≡ true → Keeps txn
    → Sends (copied txn done ledger live last).0 (copied txn done ledger live last).1.0

-- a post accuses exactly the replicas of a set of n that have not confirmed
abbrev pub AccusesUnconfirmed : ℕ → Wave → BrickReq → Type 0
AccusesUnconfirmed n wave (req.Post change cells accused) = AccusesBut accused n wave.confirmed
AccusesUnconfirmed n wave (req.Lock call is_shared cells) = Unit {0}
AccusesUnconfirmed n wave (req.Unlock call) = Unit {0}
AccusesUnconfirmed n wave (req.Mark change cells) = Unit {0}
AccusesUnconfirmed n wave (req.Op change fd op) = Unit {0}
AccusesUnconfirmed n wave (req.Fetch fd cell) = Unit {0}
AccusesUnconfirmed n wave (req.Replace cell last content) = Unit {0}
AccusesUnconfirmed n wave (req.Clear cells mask) = Unit {0}
AccusesUnconfirmed n wave (req.Settle cells mask) = Unit {0}
AccusesUnconfirmed n wave req.Index = Unit {0}
AccusesUnconfirmed n wave (req.Open fd gfid) = Unit {0}
AccusesUnconfirmed n wave (req.Release fd) = Unit {0}

abbrev pub PostsAccuse : ℕ → Wave → Need → Type 0
PostsAccuse n wave (need.Send list) = Each (λ (r : ℕ × BrickReq). AccusesUnconfirmed n wave r.1) list
PostsAccuse n wave (need.Copy job rows) = Unit {0}
PostsAccuse n wave (need.Reply reply) = Unit {0}
PostsAccuse n wave need.Wait = Unit {0}

-- the post follows the op, and accuses exactly the replicas of the set that have not confirmed the op
abbrev pub PostsFollowOps : Type 0
PostsFollowOps = (txn : Txn) (k mark change : ℕ) (rep : BrickRep) (ledger : State Cell) (live : Mask) (last : List ℕ)
    → is_asking txn ≡ true → Keeps txn → is_asked txn.wave k ≡ true → txn.phase ≡ phase.Writing change
    → PostsAccuse txn.size.n (taken txn.wave k (is_plain_done rep)) (answered txn k rep mark ledger live last).1.0
