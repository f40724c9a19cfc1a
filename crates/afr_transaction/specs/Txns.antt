-- A job under way: how it asks, how it ends, and the cause of an I/O error.
use Rattle.std.specs.Prelude.{ℕ, ◌+◌, ◌==◌, nat_lt, Bool, true, false, not, List, [], ◌∷◌, Option, Some, None, slice_index, length, if◌then◌else◌}
use Rattle.std.specs.List.{insert}
use Rattle.fop_types.specs.declared.answers.IoError.{IoError}
use Rattle.fop_types.specs.declared.answers.IoError.TheVariants as io
use Rattle.fop_types.specs.declared.causes.SkipCause.{SkipCause}
use Rattle.fop_types.specs.declared.causes.SkipCause.TheVariants as skip
use Rattle.fop_types.specs.declared.cells.Cell.{Cell}
use Rattle.fop_types.specs.declared.copy_jobs.CopyRecord.{CopyRecord}
use Rattle.fop_types.specs.declared.copy_jobs.Out.{Out}
use Rattle.fop_types.specs.declared.jobs.Job.{Job}
use Rattle.fop_types.specs.declared.jobs.Job.TheVariants as job
use Rattle.fop_types.specs.declared.jobs.SetReply.{SetReply}
use Rattle.fop_types.specs.declared.jobs.SetReply.TheVariants as reply
use Rattle.fop_types.specs.declared.messages.BrickReq.{BrickReq}
use Rattle.afr_ledger.specs.Ledger.{State}
use Rattle.afr_phases.specs.Flags.{flags_by, flag}
use Rattle.afr_phases.specs.Outs.{used}
use Rattle.afr_phases.specs.Waves.{sent_to}
use Rattle.afr_phases.specs.Sending.{sends}
use Rattle.afr_transaction.specs.declared.need.Need.{Need}
use Rattle.afr_transaction.specs.declared.need.Need.TheVariants as need
use Rattle.afr_transaction.specs.declared.phase.Phase.{Phase}
use Rattle.afr_transaction.specs.declared.phase.Phase.TheVariants as phase
use Rattle.afr_transaction.specs.declared.txn.Txn.{Txn}

-- one replica alone
abbrev pub only : ℕ → List Bool
only k = flags_by (λ j. j == k)

-- the replicas that are still used
abbrev pub alive : Txn → List Bool
alive txn = used txn.outs txn.size.n

-- one request goes to some replicas, and a phase begins
abbrev pub asking : Txn → List Bool → BrickReq → Phase → Txn × Need
asking txn to req phase = (record txn { wave = sent_to to; phase = phase }, need.Send (sends to req))

-- the job is answered
abbrev pub over : Txn → SetReply → Txn × Need
over txn reply = (record txn { phase = phase.Over }, need.Reply reply)

-- a turn that leaves the ledger as it is
abbrev pub kept : Txn × Need → State Cell → Txn × (Need × State Cell)
kept turn ledger = (turn.0, (turn.1, ledger))

-- ---- causes

-- the number of a connection as it is answered
abbrev pub unit_of : ℕ → ℕ
unit_of mark = if nat_lt mark 4294967296 then mark else 4294967295

-- how many of the first pairs are of bricks below this one
abbrev pub pairs_below : {N : Type 0} → ℕ → List (ℕ × N) → ℕ
pairs_below brick [] = 0
pairs_below brick (pair ∷ pairs) = if nat_lt pair.0 brick then pairs_below brick pairs + 1 else 0

-- with a pair more, behind those of lower bricks
abbrev pub put_pair : {N : Type 0} → ℕ × N → List (ℕ × N) → List (ℕ × N)
put_pair pair pairs = insert pairs (pairs_below pair.0 pairs) pair

-- with the brick of a replica that is out and not by a fault
abbrev pub with_lost : List ℕ → Option Out → List (ℕ × ℕ) → List (ℕ × ℕ)
with_lost bricks None pairs = pairs
with_lost bricks (Some out) pairs = if out.fault then pairs else put_pair (slice_index bricks out.replica, unit_of out.mark) pairs

-- The bricks that are out and not by a fault, by rising number, each with the number of its last connection when it was found
-- to be out.
abbrev pub lost_pairs : List ℕ → List (Option Out) → List (ℕ × ℕ)
lost_pairs bricks [] = []
lost_pairs bricks (out ∷ outs) = with_lost bricks out (lost_pairs bricks outs)

-- with the brick of a replica that is out by a fault
abbrev pub with_fault : List ℕ → Option Out → List (ℕ × ℕ) → List (ℕ × ℕ)
with_fault bricks None pairs = pairs
with_fault bricks (Some out) pairs = if out.fault then put_pair (slice_index bricks out.replica, out.mark) pairs else pairs

-- the bricks that are out by a fault, by rising number, each with the place of the request in its journal
abbrev pub fault_pairs : List ℕ → List (Option Out) → List (ℕ × ℕ)
fault_pairs bricks [] = []
fault_pairs bricks (out ∷ outs) = with_fault bricks out (fault_pairs bricks outs)

-- a fault where a brick is out by one, else lost quorum
abbrev pub io_by : ℕ → List (ℕ × ℕ) → List (ℕ × ℕ) → IoError
io_by set [] lost = io.Quorum set lost
io_by set (fault ∷ faults) lost = io.Fault set (fault ∷ faults) lost

abbrev pub io_of : Txn → IoError
io_of txn = io_by txn.set (fault_pairs txn.bricks txn.outs.at) (lost_pairs txn.bricks txn.outs.at)

-- a heal that has copied something is done; else it leaves the cell as it is
abbrev pub heal_reply : List CopyRecord → SkipCause → SetReply
heal_reply [] cause = reply.Skipped cause
heal_reply (made ∷ records) cause = reply.Healed (made ∷ records)

abbrev pub is_heal : Job → Bool
is_heal (job.Read cells fd dir) = false
is_heal (job.Change cells fd op effect) = false
is_heal (job.Birth cells op) = false
is_heal (job.Open fd gfid) = false
is_heal job.Index = false
is_heal (job.Heal cell) = true

-- a heal ends: it is done where it has copied something
abbrev pub healing : Txn → SkipCause → Txn × SetReply
healing txn cause = (record txn { records = [] }, heal_reply txn.records cause)

-- the answer of a job for which too few replicas are left, by the cause
abbrev pub failing : Txn → Txn × SetReply
failing txn = if is_heal txn.job then healing txn skip.Majority else (txn, reply.Io (io_of txn))

-- the job ends without a lock, since too few replicas are left
abbrev pub ending : Txn → Txn × Need
ending txn = let f = failing txn in over f.0 f.1
