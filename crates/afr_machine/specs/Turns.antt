-- The moves of a transaction by itself: it begins, goes on to its next phase once every request of the one before was
-- answered, gives up, or ends. Each has a guard, which says what was handed in by then. After cluster/replicate; exact
-- wording ours.
use Rattle.std.specs.Prelude.{◌≡◌, ◌↔◌, ℕ, ◌+◌, ◌<◌, ◌≤◌, ◌⊎◌, ◌==◌, Bool, true, false, not, ◌&&◌, ◌||◌, IsTrue, List, [], Option, Some, None, is_some}
use Rattle.fop_types.specs.StoreOps.{births, after_births}
use Rattle.fop_types.specs.Jobs.{IsJob}
use Rattle.fop_types.specs.declared.cells.Cell.{Cell}
use Rattle.fop_types.specs.declared.contents.Row.{Row}
use Rattle.fop_types.specs.declared.history.Entry.{Entry}
use Rattle.fop_types.specs.declared.store_ops.StoreOp.{StoreOp}
use Rattle.fop_types.specs.declared.jobs.Job.{Job}
use Rattle.fop_types.specs.declared.jobs.Job.TheVariants as job
use Rattle.afr_machine.specs.Replicas.{Replicas, Size, nobody, outside, count, with_at}
use Rattle.afr_machine.specs.Touching.{has_cell}
use Rattle.afr_machine.specs.Copies.{nothing_kept, row_of}
use Rattle.afr_machine.specs.Changes.{is_unsettled, touches, any_touches}
use Rattle.afr_machine.specs.Changes.Verdict.{Drawn}
use Rattle.afr_machine.specs.Phases.{Phase, Deciding, IsSoundIn, IsSoundOn, EachHasSound, IsReadyIn}
use Rattle.afr_machine.specs.Phases.Deciding.{NoChange, ByPosts, BySettles}
use Rattle.afr_machine.specs.Transactions.{Work, Grant, CopyRun, Stage, Txn, cells_of_job, locks_shared, settles_first, needs_locks, decided_by, new_txn}
pub use Rattle.afr_machine.specs.Transactions.{may_hold}
use Rattle.afr_machine.specs.Transactions.Work.{Own, Settles}
use Rattle.afr_machine.specs.Transactions.Stage.{Over, Choosing, Locking, Locked, Marking, Applying, Posting, Settling, Bearing, Copying, Polling, Unlocking}
use Rattle.afr_machine.specs.States.{State, is_current, with_txn, with_change, with_phase, with_firm, phase_of, link_of}
use Rattle.afr_machine.specs.Births.{AreAsFirst, with_births}

pub data Turn : Type 0 where
  Begins : (graph : ℕ) → (job : Job) → Turn
  LocksFor : (work : Work) → Turn
  Skips : Turn
  Reaches : Turn
  Marks : Turn
  Posts : Turn
  SettlesAs : (group : Replicas) → (adopts : Bool) → Turn
  Bears : Turn
  Confirms : Turn
  Copies : (run : CopyRun) → Turn
  Clears : Turn
  Polls : Turn
  Unlocks : Turn
  Rests : Turn
  Ends : Turn

-- ---- what several guards speak of

-- no answer is missing, and nothing of this phase is still to be sent
pub record IsAnswered (size : Size) (x : Txn) : Type 0 where
  pub waits : (k : ℕ) → k < size.replicas → x.waits k ≡ false
  pub is_left : (k : ℕ) → k < size.replicas → x.left k ≡ false

-- the members of its lock phase that are not out
abbrev pub members : State → ℕ → Replicas
members m t k = (phase_of m t).reached k && not ((m.txns t).out k)

abbrev pub is_granted : Option Grant → State → ℕ → ℕ → Bool
is_granted None m t k = false
is_granted (Some grant) m t k = is_current (link_of m t k) grant.connection

-- the bricks whose grant is on the connection that is open
abbrev pub open_grants : State → ℕ → Replicas
open_grants m t k = is_granted ((m.txns t).grants k) m t k

-- ---- guards

-- the job's locks: of a read or a change, once no unsettled change touches its cells
pub record MayLockOwn (m : State) (t : ℕ) : Type 0 where
  pub turn : (m.txns t).stage ≡ Choosing
  pub locks : needs_locks (m.txns t).job ≡ true
  pub unmarked : (m.txns t).own ≡ 0
  pub apart : settles_first (m.txns t).job ≡ true → any_touches m.changes m.drawn (cells_of_job (m.txns t).job) ≡ false

-- the locks for settling an unsettled change that touches the job's cells
pub record MayLockToSettle (m : State) (t u : ℕ) : Type 0 where
  pub turn : (m.txns t).stage ≡ Choosing
  pub first : settles_first (m.txns t).job ≡ true
  pub unsettled_yet : (m.txns t).settled ≡ false
  pub touching : touches (m.changes u) (cells_of_job (m.txns t).job) ≡ true

abbrev pub MayLockFor : State → ℕ → Work → Type 0
MayLockFor m t Own = MayLockOwn m t
MayLockFor m t (Settles u) = MayLockToSettle m t u

-- the brick whose turn it is is not asked: it is out, or not connected
pub record MaySkip (size : Size) (m : State) (t : ℕ) : Type 0 where
  pub cells : List Cell
  pub shared : Bool
  pub next : ℕ
  pub turn : (m.txns t).stage ≡ Locking cells shared next
  pub replica : next < size.replicas
  pub answered : (m.txns t).waits next ≡ false
  pub lost : ((m.txns t).out next ≡ true) ⊎ ((link_of m t next).is_open ≡ false)

-- every brick had its turn, and a quorum holds the lock on a connection that is open
pub record MayReach (size : Size) (m : State) (t : ℕ) : Type 0 where
  pub cells : List Cell
  pub shared : Bool
  pub turn : (m.txns t).stage ≡ Locking cells shared size.replicas
  pub answered : IsAnswered size (m.txns t)
  pub many : size.quorum ≤ count size.replicas (open_grants m t)

-- no copy was begun, or the last one is at its end
abbrev pub IsCopied : Stage → Type 0
IsCopied Over = ⊥
IsCopied Choosing = ⊥
IsCopied (Locking cells shared next) = ⊥
IsCopied Locked = Unit {0}
IsCopied (Marking change) = ⊥
IsCopied (Applying change) = ⊥
IsCopied (Posting change) = ⊥
IsCopied (Settling change group adopts) = ⊥
IsCopied Bearing = ⊥
IsCopied (Copying run) = run.clears ≡ true
IsCopied Polling = ⊥
IsCopied Unlocking = ⊥

-- A number is drawn and marks are sent: to the members, a quorum, each of which is sound on every cell or received a
-- copy. No other unsettled change touches the cells.
pub record MayMarkNow (size : Size) (m : State) (t : ℕ) : Type 0 where
  pub cells : List Cell
  pub fd : ℕ
  pub op : StoreOp
  pub effect : Option Entry
  pub job_is : (m.txns t).job ≡ job.Change cells fd op effect
  pub work_is : (m.txns t).work ≡ Own
  pub copied : IsCopied (m.txns t).stage
  pub unmarked : (m.txns t).own ≡ 0
  pub answered : IsAnswered size (m.txns t)
  pub many : size.quorum ≤ count size.replicas (members m t)
  pub ready : (k : ℕ) → k < size.replicas → members m t k ≡ true → (cell : Cell) → has_cell cells cell ≡ true → IsReadyIn size (phase_of m t) cell k
  pub apart : any_touches m.changes m.drawn cells ≡ false

-- posts are sent once a quorum applied the change
pub record MayPostNow (size : Size) (m : State) (t : ℕ) : Type 0 where
  pub change : ℕ
  pub turn : (m.txns t).stage ≡ Applying change
  pub answered : IsAnswered size (m.txns t)
  pub many : size.quorum ≤ count size.replicas (m.changes change).done

-- a row says whether its copy holds the change: its last change is that number
abbrev pub holds_last : ℕ → Row → Bool
holds_last u row = row.last == u

-- The replica is in the group of a settling: it was reached, is sound on each cell, and agrees with the verdict on each.
pub record IsInGroup (size : Size) (phase : Phase) (u : ℕ) (cells : List Cell) (adopts : Bool) (i : ℕ) : Type 0 where
  pub reached : phase.reached i ≡ true
  pub sound : IsSoundOn size phase cells i
  pub agrees : (cell : Cell) → has_cell cells cell ≡ true → holds_last u (phase.rows i cell) ≡ adopts

-- the group has all replicas that are in it by the rows, and one at least: the source
pub record MaySettleNow (size : Size) (m : State) (t : ℕ) (group : Replicas) (adopts : Bool) : Type 0 where
  pub change : ℕ
  pub turn : (m.txns t).stage ≡ Locked
  pub work_is : (m.txns t).work ≡ Settles change
  pub is_unsettled : is_unsettled (m.changes change).verdict ≡ true
  pub answered : IsAnswered size (m.txns t)
  pub group_is : (i : ℕ) → i < size.replicas → IsTrue (group i) ↔ IsInGroup size (phase_of m t) change (m.changes change).cells adopts i
  pub source : ℕ
  pub source_is : source < size.replicas
  pub source_in : group source ≡ true

pub record MayBearNow (size : Size) (m : State) (t : ℕ) : Type 0 where
  pub cells : List Cell
  pub op : StoreOp
  pub job_is : (m.txns t).job ≡ job.Birth cells op
  pub turn : (m.txns t).stage ≡ Locked
  pub work_is : (m.txns t).work ≡ Own
  pub answered : IsAnswered size (m.txns t)
  pub as_first : AreAsFirst m.born (births op)

-- a birth counts once a quorum confirmed it
pub record MayConfirm (size : Size) (m : State) (t : ℕ) : Type 0 where
  pub cells : List Cell
  pub op : StoreOp
  pub job_is : (m.txns t).job ≡ job.Birth cells op
  pub turn : (m.txns t).stage ≡ Bearing
  pub many : size.quorum ≤ count size.replicas (m.txns t).confirmed

-- ---- copies

-- the settling was confirmed by a quorum
abbrev pub IsConfirmed : Size → Txn → Stage → Type 0
IsConfirmed size x (Settling change group adopts) = size.quorum ≤ count size.replicas x.confirmed
IsConfirmed size x other = Unit {0}

-- the decided change whose settling came before, with this group
abbrev pub FollowsSettling : State → Stage → Replicas → Type 0
FollowsSettling m (Settling change group adopts) sources = (is_unsettled (m.changes change).verdict ≡ false) × (sources ≡ group)
FollowsSettling m (Copying run) sources = (run.clears ≡ true) × (run.group ≡ Some sources)
FollowsSettling m other sources = ⊥

-- a change copies while no unsettled change touches its cells, a heal where none did when its lock phase ended
abbrev pub MayCopyFor : State → ℕ → Job → Type 0
MayCopyFor m t (job.Change cells fd op effect) = any_touches m.changes m.drawn cells ≡ false
MayCopyFor m t (job.Heal cell) = (phase_of m t).untouched ≡ true
MayCopyFor m t other = ⊥

-- which copies a transaction may make: after a settling, from its group; for its own job, from whoever is sound
abbrev pub MayCopyAs : State → ℕ → Work → Option Replicas → Type 0
MayCopyAs m t Own None = IsCopied (m.txns t).stage × MayCopyFor m t (m.txns t).job
MayCopyAs m t Own (Some sources) = ⊥
MayCopyAs m t (Settles u) None = ⊥
MayCopyAs m t (Settles u) (Some sources) = FollowsSettling m (m.txns t).stage sources

-- a source: of the group, where there is one; and always sound on the cells
abbrev pub IsSource : Size → Phase → List Cell → Option Replicas → ℕ → Type 0
IsSource size phase cells None i = IsSoundOn size phase cells i
IsSource size phase cells (Some group) i = (group i ≡ true) × IsSoundOn size phase cells i

-- a sink: outside the group, where there is one; else unsound on each of the cells
abbrev pub IsSink : Size → Phase → List Cell → Option Replicas → ℕ → Type 0
IsSink size phase cells None i = (cell : Cell) → has_cell cells cell ≡ true → ¬ IsSoundIn size phase cell i
IsSink size phase cells (Some group) i = group i ≡ false

-- Before a copy for its own job, each cell of the lock phase has a sound member: a change that finds a cell without one is
-- split and copies none of its cells, a heal skips such a cell. After a settling only its group's rows count.
abbrev pub IsNotSplit : Size → Phase → Option Replicas → Type 0
IsNotSplit size phase None = EachHasSound size phase
IsNotSplit size phase (Some group) = Unit {0}

pub record MayCopyNow (size : Size) (m : State) (t : ℕ) (run : CopyRun) : Type 0 where
  pub answered : IsAnswered size (m.txns t)
  pub allowed : MayCopyAs m t (m.txns t).work run.group
  pub many : IsConfirmed size (m.txns t) (m.txns t).stage
  pub not_split : IsNotSplit size (phase_of m t) run.group
  pub within : (cell : Cell) → has_cell run.cells cell ≡ true → has_cell (phase_of m t).cells cell ≡ true
  pub sources_are : (i : ℕ) → run.sources i ≡ true → (i < size.replicas) × ((phase_of m t).reached i ≡ true) × IsSource size (phase_of m t) run.cells run.group i
  pub sinks_are : (i : ℕ) → run.sinks i ≡ true → (i < size.replicas) × (members m t i ≡ true) × IsSink size (phase_of m t) run.cells run.group i
  pub source : ℕ
  pub source_in : run.sources source ≡ true
  pub cell : Cell
  pub cell_in : has_cell run.cells cell ≡ true
  pub not_fetched : run.fetched ≡ (λ c. None)
  pub not_replaced : run.replaced ≡ (λ k c. false)
  pub not_clearing : run.clears ≡ false

-- the clear follows once no replacement is on its way
pub record MayClearNow (size : Size) (m : State) (t : ℕ) : Type 0 where
  pub run : CopyRun
  pub turn : (m.txns t).stage ≡ Copying run
  pub replacing : run.clears ≡ false
  pub answered : IsAnswered size (m.txns t)

-- ---- the ends

-- a transaction may give up, or be done with its lock phase, at the end of any phase; what a quorum confirmed is decided
-- by then
pub record MayUnlockNow (size : Size) (m : State) (t : ℕ) : Type 0 where
  pub turn : may_hold (m.txns t).stage ≡ true
  pub answered : IsAnswered size (m.txns t)
  pub decided : (u : ℕ) (adopts : Bool) → decided_by (m.txns t).stage ≡ Some (u, adopts) → size.quorum ≤ count size.replicas (m.txns t).confirmed → is_unsettled (m.changes u).verdict ≡ false

pub record MayRest (size : Size) (m : State) (t : ℕ) : Type 0 where
  pub turn : ((m.txns t).stage ≡ Unlocking) ⊎ ((m.txns t).stage ≡ Polling)
  pub answered : IsAnswered size (m.txns t)

pub record MayPollNow (m : State) (t : ℕ) : Type 0 where
  pub turn : (m.txns t).stage ≡ Choosing
  pub no_locks : needs_locks (m.txns t).job ≡ false

abbrev pub MayTurn : Size → State → ℕ → Turn → Type 0
MayTurn size m t (Begins graph job) = (t ≡ m.begun + 1) × IsJob job
MayTurn size m t (LocksFor work) = MayLockFor m t work
MayTurn size m t Skips = MaySkip size m t
MayTurn size m t Reaches = MayReach size m t
MayTurn size m t Marks = MayMarkNow size m t
MayTurn size m t Posts = MayPostNow size m t
MayTurn size m t (SettlesAs group adopts) = MaySettleNow size m t group adopts
MayTurn size m t Bears = MayBearNow size m t
MayTurn size m t Confirms = MayConfirm size m t
MayTurn size m t (Copies run) = MayCopyNow size m t run
MayTurn size m t Clears = MayClearNow size m t
MayTurn size m t Polls = MayPollNow m t
MayTurn size m t Unlocks = MayUnlockNow size m t
MayTurn size m t Rests = MayRest size m t
MayTurn size m t Ends = (m.txns t).stage ≡ Choosing

-- ---- what each makes of the state

-- the stage, and whom its first requests go to; nobody confirmed one yet
abbrev pub entering : Txn → Stage → Replicas → Txn
entering x stage to = record x { stage = stage; left = to; confirmed = nobody }

abbrev pub locking_for : State → Txn → Work → Txn
locking_for m x Own = record x { stage = Locking (cells_of_job x.job) (locks_shared x.job) 0; work = Own; settled = true }
locking_for m x (Settles u) = record x { stage = Locking (m.changes u).cells false 0; work = Settles u }

abbrev pub skipping : Txn → Stage → Txn
skipping x (Locking cells shared next) = record x { stage = Locking cells shared (next + 1); out = with_at x.out next true }
skipping x other = x

abbrev pub cells_locked : Stage → List Cell
cells_locked (Locking cells shared next) = cells
cells_locked other = []

abbrev pub rows_granted : Option Grant → Cell → Row
rows_granted None cell = row_of nothing_kept
rows_granted (Some grant) cell = grant.rows cell

-- the lock phase as it ended
abbrev pub phase_reached : State → ℕ → Phase
phase_reached m t = record {
  by = t;
  cells = cells_locked (m.txns t).stage;
  reached = open_grants m t;
  rows = λ k cell. rows_granted ((m.txns t).grants k) cell;
  untouched = not (any_touches m.changes m.drawn (cells_locked (m.txns t).stage));
  cleared = λ i cell. nobody;
  accused = nobody;
  decides = NoChange;
  confirmed = nobody;
  wrote = false;
}

-- who was not reached is out
abbrev pub reaching : State → ℕ → State
reaching m t =
    let x = m.txns t in
    record (with_phase (with_txn m t (record x { stage = Locked; phase = m.ended + 1; out = λ k. x.out k || not (open_grants m t k) })) (m.ended + 1) (phase_reached m t)) { ended = m.ended + 1 }

-- from now on this is what the phase decides
abbrev pub deciding_now : State → ℕ → Deciding → State
deciding_now m t decides = with_phase m (m.txns t).phase (record (phase_of m t) { decides = decides })

-- the job's change, with the next number
abbrev pub drawing : State → ℕ → Job → State
drawing m t (job.Change cells fd op effect) =
    let u = m.drawn + 1 in
    record (with_change
    (with_txn (deciding_now m t (ByPosts u)) t (record (entering (m.txns t) (Marking u) (members m t)) { own = u }))
    u (record { by = t; cells = cells; op = op; effect = effect; verdict = Drawn; done = nobody })) { drawn = u }
drawing m t other = m

-- from now on the phase accuses these replicas
abbrev pub accusing_now : State → ℕ → Replicas → State
accusing_now m t accused = let phase = phase_of m t in with_phase m (m.txns t).phase (record phase { accused = λ i. phase.accused i || accused i })

abbrev pub posting : Size → State → ℕ → Stage → State
posting size m t (Applying u) = with_txn (accusing_now m t (outside size (m.changes u).done)) t (entering (m.txns t) (Posting u) (m.changes u).done)
posting size m t other = m

abbrev pub settling : Size → State → ℕ → Work → Replicas → Bool → State
settling size m t Own group adopts = m
settling size m t (Settles u) group adopts =
    with_txn (accusing_now (deciding_now m t (BySettles u group adopts)) t (outside size group)) t (entering (m.txns t) (Settling u group adopts) (members m t))

-- a cell is born when its birth is begun
abbrev pub bearing : State → ℕ → Job → State
bearing m t (job.Birth cells op) =
    record (with_births (with_txn m t (entering (m.txns t) Bearing (members m t))) op) { adopted = after_births m.adopted (births op) }
bearing m t other = m

abbrev pub clearing : State → ℕ → Stage → State
clearing m t (Copying run) = with_txn m t (entering (m.txns t) (Copying (record run { clears = true })) (members m t))
clearing m t other = m

-- the grants are gone; a brick whose grant was lost with its connection stays out
abbrev pub resting : State → ℕ → Txn
resting m t =
    let x = m.txns t in
    record x { stage = Choosing; work = Own; out = λ k. x.out k || is_some (x.grants k); grants = λ k. None; left = nobody; confirmed = nobody }

abbrev pub after_turn : Size → State → ℕ → Turn → State
after_turn size m t (Begins graph job) = record (with_txn m t (new_txn graph job)) { begun = t }
after_turn size m t (LocksFor work) = with_txn m t (locking_for m (m.txns t) work)
after_turn size m t Skips = with_txn m t (skipping (m.txns t) (m.txns t).stage)
after_turn size m t Reaches = reaching m t
after_turn size m t Marks = drawing m t (m.txns t).job
after_turn size m t Posts = posting size m t (m.txns t).stage
after_turn size m t (SettlesAs group adopts) = settling size m t (m.txns t).work group adopts
after_turn size m t Bears = bearing m t (m.txns t).job
after_turn size m t Confirms = with_firm m (cells_of_job (m.txns t).job)
after_turn size m t (Copies run) = with_txn m t (entering (m.txns t) (Copying run) nobody)
after_turn size m t Clears = clearing m t (m.txns t).stage
after_turn size m t Polls = with_txn m t (entering (m.txns t) Polling (outside size (m.txns t).out))
after_turn size m t Unlocks = with_txn m t (entering (m.txns t) Unlocking (open_grants m t))
after_turn size m t Rests = with_txn m t (resting m t)
after_turn size m t Ends = with_txn m t (record (m.txns t) { stage = Over })
