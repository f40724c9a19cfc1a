-- The lock phase of a job, and its end: which cells are locked, the locks one after another, and their release.
use Rattle.std.specs.Prelude.{ℕ, Bool, true, false, ◌&&◌, List, [], ◌∷◌, Option, Some, None, is_none, slice_index, if◌then◌else◌}
use Rattle.fop_types.specs.Orders.{cell_cmp}
use Rattle.fop_types.specs.declared.cells.Cell.{Cell}
use Rattle.fop_types.specs.declared.contents.Mask.{Mask}
use Rattle.fop_types.specs.declared.contents.Row.{Row}
use Rattle.fop_types.specs.declared.jobs.Job.{Job}
use Rattle.fop_types.specs.declared.jobs.Job.TheVariants as job
use Rattle.fop_types.specs.declared.messages.BrickReq.TheVariants as req
use Rattle.fop_types.specs.declared.messages.BrickRep.{BrickRep}
use Rattle.fop_types.specs.declared.jobs.SetReply.{SetReply}
use Rattle.afr_ledger.specs.Changes.{numbered, touching}
use Rattle.afr_ledger.specs.Ledger.{State}
use Rattle.afr_ledger.specs.declared.unsettled.Unsettled.{Unsettled}
use Rattle.afr_phases.specs.declared.outs.Outs.{Outs}
use Rattle.afr_phases.specs.Flags.{flag, lowest, no_flags}
use Rattle.afr_phases.specs.Outs.{is_short, left, used}
use Rattle.afr_phases.specs.Locks.{no_locks, granted, standing}
use Rattle.afr_phases.specs.Waves.{taken}
use Rattle.afr_phases.specs.declared.locking.LockStep.{LockStep}
use Rattle.afr_phases.specs.declared.locking.LockStep.TheVariants as step
use Rattle.afr_phases.specs.Locking.{next_lock, without_lost}
use Rattle.afr_phases.specs.Answers.{is_fault, is_plain_done, rows_in}
use Rattle.afr_phases.specs.Shown.{nothing_shown, with_rows, reaching}
use Rattle.afr_transaction.specs.declared.need.Need.{Need}
use Rattle.afr_transaction.specs.declared.phase.Phase.TheVariants as phase
use Rattle.afr_transaction.specs.declared.phase.Then.{Then}
use Rattle.afr_transaction.specs.declared.phase.Then.TheVariants as next
use Rattle.afr_transaction.specs.declared.txn.Txn.{Txn}
use Rattle.afr_transaction.specs.Txns.{only, asking, over, failing, ending, alive}

-- ---- which cells

-- the cells of a job that takes locks
abbrev pub job_cells : Job → List Cell
job_cells (job.Read cells fd dir) = cells
job_cells (job.Change cells fd op effect) = cells
job_cells (job.Birth cells op) = cells
job_cells (job.Open fd gfid) = []
job_cells job.Index = []
job_cells (job.Heal cell) = cell ∷ []

-- whether a job settles what touches its cells before it takes its locks: a read and a change
abbrev pub settles_first : Job → Bool
settles_first (job.Read cells fd dir) = true
settles_first (job.Change cells fd op effect) = true
settles_first (job.Birth cells op) = false
settles_first (job.Open fd gfid) = false
settles_first job.Index = false
settles_first (job.Heal cell) = false

-- a read shares its locks
abbrev pub is_read : Job → Bool
is_read (job.Read cells fd dir) = true
is_read (job.Change cells fd op effect) = false
is_read (job.Birth cells op) = false
is_read (job.Open fd gfid) = false
is_read job.Index = false
is_read (job.Heal cell) = false

-- the change that is to be settled first: the least unsettled one that touches the job's cells
abbrev pub to_settle : Txn → State Cell → Option ℕ
to_settle txn ledger = if settles_first txn.job then touching cell_cmp txn.set (job_cells txn.job) ledger.unsettled else None

abbrev pub cells_of : Option (Unsettled Cell) → List Cell
cells_of None = []
cells_of (Some u) = u.cells

-- the cells of a lock phase that settles a change, or does the job's own work
abbrev pub cells_for : Txn → State Cell → Option ℕ → List Cell
cells_for txn ledger None = job_cells txn.job
cells_for txn ledger (Some change) = cells_of (numbered change ledger.unsettled)

-- ---- the locks

-- a replica is asked for its lock
abbrev pub locking : Txn → ℕ → Txn × Need
locking txn k = asking txn (only k) (req.Lock txn.call (is_read txn.job && is_none txn.settles) txn.cells) (phase.Locking k)

-- the first step of a lock phase: nothing is locked yet, so all that it can be is a replica that is asked
abbrev pub first_step : Txn → Outs × LockStep → Txn × Need
first_step txn (outs, step.Ask k) = locking (record txn { outs = outs }) k
first_step txn (outs, step.Short) = ending (record txn { outs = outs })
first_step txn (outs, step.Reached) = ending (record txn { outs = outs })

-- the first replica is asked, where enough are left
abbrev pub first_lock : Txn → Mask → List ℕ → Txn × Need
first_lock txn live last = first_step txn (next_lock txn.outs txn.locks txn.size.n txn.size.q 0 live last)

-- a lock phase over some cells begins
abbrev pub start_lock : Txn → List Cell → Option ℕ → Mask → List ℕ → Txn × Need
start_lock txn cells settles live last =
    first_lock (record txn { cells = cells; settles = settles; locks = no_locks; shown = nothing_shown }) live last

-- the job begins, or begins again
abbrev pub again : Txn → State Cell → Mask → List ℕ → Txn × Need
again txn ledger live last =
    start_lock txn (cells_for txn ledger (to_settle txn ledger)) (to_settle txn ledger) live last

-- ---- the release

abbrev pub going : Txn → Then → State Cell → Mask → List ℕ → Txn × Need
going txn (next.Answer reply) ledger live last = over txn reply
going txn next.Again ledger live last = again txn ledger live last

-- a replica that granted a lock which is not held any more is out for the job, with the number of its last connection
abbrev pub lost_noted : Txn → Mask → List ℕ → Txn
lost_noted txn live last = record txn { outs = without_lost txn.outs txn.locks txn.size.n live last }

-- the locks that are still held are released
abbrev pub releasing : Txn → Then → State Cell → Mask → List ℕ → Txn × Need
releasing txn after ledger live last =
    if is_none (lowest (standing txn.locks live last)) then going txn after ledger live last
    else asking txn (standing txn.locks live last) (req.Unlock txn.call) (phase.Unlocking after)

-- the lock phase is over: whose lock was lost is noted, and the others are released
abbrev pub unlock : Txn → Then → State Cell → Mask → List ℕ → Txn × Need
unlock txn after ledger live last = releasing (lost_noted txn live last) after ledger live last

-- too few replicas are left
abbrev pub fail : Txn → State Cell → Mask → List ℕ → Txn × Need
fail txn ledger live last = let f = failing txn in unlock f.0 (next.Answer f.1) ledger live last

-- ---- answers in the lock phase

-- a replica grants its lock on its last connection, with a row for each cell; or it is out
abbrev pub lock_taken : Txn → ℕ → Option (List Row) → Bool → ℕ → List ℕ → Txn
lock_taken txn k None fault mark last =
    record txn { outs = left txn.outs k fault mark; wave = taken txn.wave k false }
lock_taken txn k (Some rows) fault mark last =
    record txn { locks = granted txn.locks k (slice_index last k); shown = with_rows txn.shown k rows; wave = taken txn.wave k true }

-- the lock phase has ended: the replicas that are not out are the reached set
abbrev pub reached : Txn → Txn
reached txn = record txn { shown = reaching txn.shown (alive txn) }
