-- How often a job may still begin again at its locks: a number that no answer and no finished copy raises, and that each
-- beginning again lowers. Of what others do only a change that becomes unsettled on the job's cells raises it.
use Rattle.std.specs.Prelude.{◌≡◌, ◌≢◌, ℕ, ◌+◌, ◌≤◌, ◌<◌, ◌⊎◌, Bool, true, false, ◌&&◌, ◌||◌, not, List, [], ◌∷◌, Option, Some, None, is_none, is_some}
use Rattle.std.specs.Ordering.{is_eq, nat_cmp}
use Rattle.fop_types.specs.Orders.{cell_cmp}
use Rattle.fop_types.specs.declared.cells.Cell.{Cell}
use Rattle.fop_types.specs.declared.contents.Mask.{Mask}
use Rattle.fop_types.specs.declared.copy_jobs.CopyDone.{CopyDone}
use Rattle.fop_types.specs.declared.copy_jobs.Out.{Out}
use Rattle.fop_types.specs.declared.jobs.Job.{Job}
use Rattle.fop_types.specs.declared.jobs.SetPlan.{SetPlan}
use Rattle.fop_types.specs.declared.messages.BrickRep.{BrickRep}
use Rattle.afr_ledger.specs.Changes.{numbered, touching, touches_any, AreKept}
use Rattle.afr_ledger.specs.Ledger.{State, AreDrawn, with_number, with_begun, decided}
use Rattle.afr_ledger.specs.declared.unsettled.Unsettled.{Unsettled}
use Rattle.afr_phases.specs.Flags.{bit, both, but_for, flag, lowest, names}
use Rattle.afr_phases.specs.Outs.{used}
use Rattle.afr_phases.specs.Waves.{is_asked}
use Rattle.afr_transaction.specs.declared.need.Need.{Need}
use Rattle.afr_transaction.specs.declared.phase.Part.{Part}
use Rattle.afr_transaction.specs.declared.phase.Phase.{Phase}
use Rattle.afr_transaction.specs.declared.phase.Phase.TheVariants as phase
use Rattle.afr_transaction.specs.declared.phase.Then.{Then}
use Rattle.afr_transaction.specs.declared.phase.Then.TheVariants as next
use Rattle.afr_transaction.specs.declared.phase.Verdict.{Verdict}
use Rattle.afr_transaction.specs.declared.size.Size.{Size}
use Rattle.afr_transaction.specs.declared.txn.Txn.{Txn}
use Rattle.afr_transaction.specs.Answers.{answered, copied}
use Rattle.afr_transaction.specs.Begins.{fresh, started}
use Rattle.afr_transaction.specs.Causes.{Tracks}
use Rattle.afr_transaction.specs.Changes.{may_begin}
use Rattle.afr_transaction.specs.Copied.{is_change}
use Rattle.afr_transaction.specs.Copies.{with_outs}
use Rattle.afr_transaction.specs.Encodings.{HasBounds}
use Rattle.afr_transaction.specs.Jobs.{change_op}
use Rattle.afr_transaction.specs.Locked.{job_cells, settles_first}
use Rattle.afr_transaction.specs.Reads.{is_split_read}
use Rattle.afr_transaction.specs.Requests.{Keeps}
use Rattle.afr_transaction.specs.Shapes.{is_asking, is_copying}
use Rattle.afr_transaction.specs.Txns.{alive, is_heal}
use Rattle.txn_laws.specs.Work.{how_many, work, BeginsAgain}

-- ---- what may make a job begin again

-- how many unsettled changes touch these cells of a set
abbrev pub unsettled_on : ℕ → List Cell → List (ℕ × Unsettled Cell) → ℕ
unsettled_on set cells [] = 0
unsettled_on set cells (e ∷ us) = bit (touches_any cell_cmp set cells e.1) + unsettled_on set cells us

-- whether the change of a number is unsettled and touches these cells
abbrev pub is_unsettled_on : ℕ → List Cell → ℕ → List (ℕ × Unsettled Cell) → Bool
is_unsettled_on set cells change [] = false
is_unsettled_on set cells change (e ∷ us) =
    (is_eq (nat_cmp change e.0) && touches_any cell_cmp set cells e.1) || is_unsettled_on set cells change us

-- each unsettled change on the job's cells, and each replica that the job uses, makes it begin again at most once
abbrev pub occasions : Txn → State Cell → ℕ
occasions txn ledger = unsettled_on txn.set (job_cells txn.job) ledger.unsettled + how_many (alive txn)

-- ---- whether it is due to begin again, by the phase that it is in

-- the change that a job settles is settled by now
abbrev pub is_settled : ℕ → Job → ℕ → State Cell → Bool
is_settled set job change ledger = not (is_unsettled_on set (job_cells job) change ledger.unsettled)

-- an unsettled change touches the cells of a lock phase before which there was none
abbrev pub is_met : ℕ → Job → List Cell → State Cell → Bool
is_met set job cells ledger = settles_first job && is_some (touching cell_cmp set cells ledger.unsettled)

-- one of these replicas is not used any more
unfoldable pub is_one_out : List Bool → List Bool → Bool
is_one_out replicas used = is_some (lowest (but_for replicas used))

-- a replica that was reached is out
abbrev pub has_lost : Txn → Bool
has_lost txn = is_one_out txn.shown.reached (alive txn)

-- some part has no source among the replicas that were reached
abbrev pub lack_sources : List Bool → List Part → Bool
lack_sources reached [] = false
lack_sources reached (part ∷ parts) = is_none (lowest (both part.sources reached)) || lack_sources reached parts

-- A lock phase: of a settling its change is settled by now, else an unsettled change touches its cells.
abbrev pub is_lock_late : Option ℕ → ℕ → Job → List Cell → State Cell → Bool
is_lock_late (Some change) set job cells ledger = is_settled set job change ledger
is_lock_late None set job cells ledger = is_met set job cells ledger

-- A read: one that was reached is out. No read goes on where its rows are split.
abbrev pub is_read_late : Txn → Bool
is_read_late txn = has_lost txn || is_split_read txn 0 txn.cells

-- Copies: of a settling always; else one that was reached is out, or an unsettled change touches the cells. No copy is asked for
-- where a part lacks a source, nor by another job than a change and a heal.
abbrev pub is_copy_late : Txn → List Part → State Cell → Bool
is_copy_late txn rest ledger =
    has_lost txn || (is_some txn.settles || (lack_sources txn.shown.reached rest
    || (is_met txn.set txn.job txn.cells ledger || not (is_change txn.job || is_heal txn.job))))

-- A mark: its change may not become unsettled any more. No job marks that has no op.
abbrev pub is_mark_late : Txn → ℕ → State Cell → Bool
is_mark_late txn change ledger = not (may_begin txn change ledger) || is_none (change_op txn.job)

-- A settle: its change is decided, or settled by another by now.
abbrev pub is_settle_late : Txn → Verdict → State Cell → Bool
is_settle_late txn verdict ledger = verdict.decided || is_settled txn.set txn.job verdict.change ledger

-- ---- how often it may still begin again

abbrev pub rounds_after : Then → Txn → State Cell → ℕ
rounds_after (next.Answer reply) txn ledger = 0
rounds_after next.Again txn ledger = occasions txn ledger + 1

-- A job that sends its op does not begin again.
abbrev pub rounds_in : Phase → Txn → State Cell → ℕ
rounds_in (phase.Locking at) txn ledger = occasions txn ledger + bit (is_lock_late txn.settles txn.set txn.job txn.cells ledger)
rounds_in (phase.Unlocking after) txn ledger = rounds_after after txn ledger
rounds_in (phase.Fetching place from contents) txn ledger = occasions txn ledger + bit (is_read_late txn)
rounds_in (phase.Copying sinks rest) txn ledger = occasions txn ledger + bit (is_copy_late txn rest ledger)
rounds_in (phase.Marking change) txn ledger = occasions txn ledger + bit (is_mark_late txn change ledger)
rounds_in (phase.Writing change) txn ledger = 0
rounds_in (phase.Posting change adopted) txn ledger = 0
rounds_in (phase.Settling verdict) txn ledger = occasions txn ledger + bit (is_settle_late txn verdict ledger)
rounds_in phase.Bearing txn ledger = 0
rounds_in phase.Opening txn ledger = 0
rounds_in (phase.Listing all) txn ledger = 0
rounds_in phase.Over txn ledger = 0

abbrev pub rounds : Txn → State Cell → ℕ
rounds txn ledger = rounds_in txn.phase txn ledger

-- ---- the laws of a job's own turns

-- what every ledger keeps
pub record LedgerKeeps (ledger : State Cell) : Type 0 where
  pub kept : AreKept cell_cmp ledger.unsettled
  pub drawn : AreDrawn ledger.drawn ledger.unsettled

-- a turn leaves less work and no more rounds, or the job begins again and fewer rounds are left
abbrev pub IsPaid : Txn → State Cell → Mask → List ℕ → Txn × (Need × State Cell) → Type 0
IsPaid txn ledger live last t =
    ((work t.0 < work txn) × (rounds t.0 t.1.1 ≤ rounds txn ledger))
    ⊎ (BeginsAgain txn t.1.1 live last t.0 t.1.0 × (rounds t.0 t.1.1 < rounds txn ledger))

-- a job begins with one round at most for each replica and each unsettled change on its cells
abbrev pub BeginsHaveFewRounds : Type 0
BeginsHaveFewRounds = (size : Size) (set : SetPlan) (call : ℕ) (job : Job) (ledger : State Cell) (live : Mask) (last : List ℕ)
    → rounds (started (fresh size set call job) ledger live last).0 ledger ≤ unsettled_on set.number (job_cells job) ledger.unsettled + size.n

abbrev pub EachAnswerIsPaid : Type 0
EachAnswerIsPaid = (txn : Txn) (k mark : ℕ) (rep : BrickRep) (ledger : State Cell) (live : Mask) (last : List ℕ)
    → is_asking txn ≡ true → Keeps txn → Tracks txn → HasBounds txn → LedgerKeeps ledger → is_asked txn.wave k ≡ true
    → IsPaid txn ledger live last (answered txn k rep mark ledger live last)

-- A copy leaves a sink that is used still, and not up to date, only where it was left without a source: a replica that the job
-- used before the copy went out in it.
abbrev pub sinks_in : Phase → List Bool
sinks_in (phase.Copying sinks rest) = sinks
sinks_in (phase.Locking at) = []
sinks_in (phase.Unlocking after) = []
sinks_in (phase.Fetching place from contents) = []
sinks_in (phase.Marking change) = []
sinks_in (phase.Writing change) = []
sinks_in (phase.Posting change adopted) = []
sinks_in (phase.Settling verdict) = []
sinks_in phase.Bearing = []
sinks_in phase.Opening = []
sinks_in (phase.Listing all) = []
sinks_in phase.Over = []

abbrev pub IsOutIn : ℕ → List Out → Type 0
IsOutIn replica [] = ⊥
IsOutIn replica (out ∷ outs) = (out.replica ≡ replica) ⊎ IsOutIn replica outs

-- one of these replicas went out in the copy
pub record HasWentOut (replicas : List Bool) (outs : List Out) : Type 0 where
  pub replica : ℕ
  pub was_used : flag replicas replica ≡ true
  pub out : IsOutIn replica outs

abbrev pub LeavesForLoss : List Bool → Txn → CopyDone → Type 0
LeavesForLoss sinks txn done =
    (k : ℕ) → flag sinks k ≡ true → flag (used (with_outs txn.size.n txn.outs done.outs) txn.size.n) k ≡ true → names done.current k ≡ false → HasWentOut (alive txn) done.outs

abbrev pub EachCopyIsPaid : Type 0
EachCopyIsPaid = (txn : Txn) (done : CopyDone) (ledger : State Cell) (live : Mask) (last : List ℕ)
    → is_copying txn ≡ true → Keeps txn → LedgerKeeps ledger → LeavesForLoss (sinks_in txn.phase) txn done
    → IsPaid txn ledger live last (copied txn done ledger live last)

-- ---- the laws of what others do

-- a number that is drawn and a change that is decided raise nothing, and a change that becomes unsettled raises it by two at most
abbrev pub DrawsRaiseNothing : Type 0
DrawsRaiseNothing = (txn : Txn) (ledger : State Cell) → rounds txn (with_number ledger) ≤ rounds txn ledger

abbrev pub DecisionsRaiseNothing : Type 0
DecisionsRaiseNothing = (txn : Txn) (ledger : State Cell) (change : ℕ) (adopted : Bool) → rounds txn (decided ledger change adopted) ≤ rounds txn ledger

abbrev pub BeginsRaiseByTwo : Type 0
BeginsRaiseByTwo = (txn : Txn) (ledger : State Cell) (u : Unsettled Cell) → rounds txn (with_begun ledger u) ≤ rounds txn ledger + 2

-- a change that touches neither the job's cells nor those of its lock phase, with a number of its own
pub record IsElsewhere (txn : Txn) (ledger : State Cell) (u : Unsettled Cell) : Type 0 where
  pub own : touches_any cell_cmp txn.set (job_cells txn.job) u ≡ false
  pub locked : touches_any cell_cmp txn.set txn.cells u ≡ false
  pub number : is_none (numbered u.change ledger.unsettled) ≡ true
  pub unmarked : txn.phase ≢ phase.Marking u.change

abbrev pub BeginsElsewhereRaiseNothing : Type 0
BeginsElsewhereRaiseNothing = (txn : Txn) (ledger : State Cell) (u : Unsettled Cell) → IsElsewhere txn ledger u → rounds txn (with_begun ledger u) ≤ rounds txn ledger
