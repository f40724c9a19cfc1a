-- A transaction of the set: what it does, how far it has come, and what was handed in to it. Ours, after
-- cluster/replicate.
use Rattle.std.specs.Prelude.{ℕ, Bool, true, false, List, [], ◌∷◌, Option, Some, None}
use Rattle.fop_types.specs.declared.cells.Cell.{Cell}
use Rattle.fop_types.specs.declared.contents.Row.{Row}
use Rattle.fop_types.specs.declared.jobs.Job.{Job}
use Rattle.fop_types.specs.declared.jobs.Job.TheVariants as job
use Rattle.afr_machine.specs.Replicas.{Replicas, nobody}
use Rattle.afr_machine.specs.Copies.{Fetched}
use Rattle.afr_machine.specs.Requests.{Ask}

-- what a lock phase is for: the job itself, or an unsettled change that is to be settled
pub data Work : Type 0 where
  Own : Work
  Settles : (change : ℕ) → Work

-- a lock that was granted: on which connection, over which cells, and the rows that came with it
pub record Grant : Type 0 where
  pub connection : ℕ
  pub shared : Bool
  pub cells : List Cell
  pub rows : Cell → Row

-- The copying of some cells that have the same sources and sinks: what was fetched, which sinks confirmed the
-- replacement of which cell, and whether the clear is under way. `group` is there where a settling came before it.
pub record CopyRun : Type 0 where
  pub cells : List Cell
  pub sources : Replicas
  pub sinks : Replicas
  pub group : Option Replicas
  pub fetched : Cell → Option Fetched
  pub replaced : ℕ → Cell → Bool
  pub clears : Bool

-- How far a transaction has come. `Choosing`: it settles or locks next. `Locking`: the locks are asked one after
-- another, `next` is the brick whose turn it is. `Locked`: the lock phase has ended. `Bearing`: the op of a birth is
-- sent. `Polling`: an open or an index, which needs no lock, is sent.
pub data Stage : Type 0 where
  Over : Stage
  Choosing : Stage
  Locking : (cells : List Cell) → (shared : Bool) → (next : ℕ) → Stage
  Locked : Stage
  Marking : (change : ℕ) → Stage
  Applying : (change : ℕ) → Stage
  Posting : (change : ℕ) → Stage
  Settling : (change : ℕ) → (group : Replicas) → (adopts : Bool) → Stage
  Bearing : Stage
  Copying : (run : CopyRun) → Stage
  Polling : Stage
  Unlocking : Stage

-- `settled`: its settling has ended, and its own locks were asked. `out`: the bricks that it uses no more. `waits`: the
-- bricks whose answer it waits for, and `asked_on` the connections on which it asked. `flying`: its requests that are
-- on their way to a brick or back, on a connection that the hub still has open. `left`: the bricks to which the request
-- of this phase is still to be sent, and `confirmed` those that confirmed it. `phase`: the number of its lock phase,
-- once that has ended. `own`: the number of its own change, 0 before it is drawn. `shown`: what the fetches of a read gave.
pub record Txn : Type 0 where
  pub graph : ℕ
  pub job : Job
  pub work : Work
  pub stage : Stage
  pub settled : Bool
  pub out : Replicas
  pub grants : ℕ → Option Grant
  pub waits : Replicas
  pub asked_on : ℕ → ℕ
  pub flying : ℕ → List Ask
  pub left : Replicas
  pub confirmed : Replicas
  pub phase : ℕ
  pub own : ℕ
  pub shown : Cell → Option Fetched

abbrev pub cells_of_job : Job → List Cell
cells_of_job (job.Read cells fd dir) = cells
cells_of_job (job.Change cells fd op effect) = cells
cells_of_job (job.Birth cells op) = cells
cells_of_job (job.Open fd gfid) = []
cells_of_job job.Index = []
cells_of_job (job.Heal cell) = cell ∷ []

-- reads take shared locks
abbrev pub locks_shared : Job → Bool
locks_shared (job.Read cells fd dir) = true
locks_shared (job.Change cells fd op effect) = false
locks_shared (job.Birth cells op) = false
locks_shared (job.Open fd gfid) = false
locks_shared job.Index = false
locks_shared (job.Heal cell) = false

-- reads and changes settle first: from then on no unsettled change but their own may touch their cells
abbrev pub settles_first : Job → Bool
settles_first (job.Read cells fd dir) = true
settles_first (job.Change cells fd op effect) = true
settles_first (job.Birth cells op) = false
settles_first (job.Open fd gfid) = false
settles_first job.Index = false
settles_first (job.Heal cell) = false

abbrev pub needs_locks : Job → Bool
needs_locks (job.Read cells fd dir) = true
needs_locks (job.Change cells fd op effect) = true
needs_locks (job.Birth cells op) = true
needs_locks (job.Open fd gfid) = false
needs_locks job.Index = false
needs_locks (job.Heal cell) = true

abbrev pub is_over : Stage → Bool
is_over Over = true
is_over Choosing = false
is_over (Locking cells shared next) = false
is_over Locked = false
is_over (Marking change) = false
is_over (Applying change) = false
is_over (Posting change) = false
is_over (Settling change group adopts) = false
is_over Bearing = false
is_over (Copying run) = false
is_over Polling = false
is_over Unlocking = false

-- the stages in which locks may be held
abbrev pub may_hold : Stage → Bool
may_hold Over = false
may_hold Choosing = false
may_hold (Locking cells shared next) = true
may_hold Locked = true
may_hold (Marking change) = true
may_hold (Applying change) = true
may_hold (Posting change) = true
may_hold (Settling change group adopts) = true
may_hold Bearing = true
may_hold (Copying run) = true
may_hold Polling = false
may_hold Unlocking = false

-- what a quorum of confirmations decides, by the stage: posts adopt, settles go by their group
abbrev pub decided_by : Stage → Option (ℕ × Bool)
decided_by (Posting change) = Some (change, true)
decided_by (Settling change group adopts) = Some (change, adopts)
decided_by other = None

-- a transaction at its beginning
abbrev pub new_txn : ℕ → Job → Txn
new_txn graph job = record {
  graph = graph;
  job = job;
  work = Own;
  stage = Choosing;
  settled = false;
  out = nobody;
  grants = λ k. None;
  waits = nobody;
  asked_on = λ k. 0;
  flying = λ k. [];
  left = nobody;
  confirmed = nobody;
  phase = 0;
  own = 0;
  shown = λ cell. None;
}

-- what stands for a transaction under a number that none has
abbrev pub no_txn : Txn
no_txn = record (new_txn 0 job.Index) { stage = Over }
