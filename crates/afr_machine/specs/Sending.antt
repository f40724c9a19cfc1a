-- What a transaction may send to which brick, and when: by what was handed in to it, and on the connection on which the
-- brick granted its lock. One guard for each kind of request. After cluster/replicate; exact wording ours.
use Rattle.std.specs.Prelude.{◌≡◌, ℕ, ◌<◌, ◌⊎◌, Bool, true, false, ◌&&◌, ◌||◌, List, [], ◌∷◌, ◌++◌, Some, None}
use Rattle.fop_types.specs.StoreOps.{births}
use Rattle.fop_types.specs.Jobs.{cells_of}
use Rattle.fop_types.specs.declared.cells.Cell.{Cell}
use Rattle.fop_types.specs.declared.cells.Gfid.{Gfid}
use Rattle.fop_types.specs.declared.store_ops.StoreOp.{StoreOp}
use Rattle.fop_types.specs.declared.jobs.Job.TheVariants as job
use Rattle.afr_machine.specs.Replicas.{Replicas, Size, outside, with_at}
use Rattle.afr_machine.specs.Touching.{has_cell}
use Rattle.afr_machine.specs.Copies.{Fetched}
use Rattle.afr_machine.specs.Requests.{Sender, Ask, Input}
use Rattle.afr_machine.specs.Requests.Ask.{Lock, Unlock, Mark, Op, Post, Fetch, Replace, Clear, Settle, Index, Open, Release, OpenFirst}
use Rattle.afr_machine.specs.Requests.Input.{Asked}
use Rattle.afr_machine.specs.Changes.{is_unsettled}
use Rattle.afr_machine.specs.Phases.{Phase, IsSoundIn}
use Rattle.afr_machine.specs.Transactions.{Grant, CopyRun, Txn}
use Rattle.afr_machine.specs.Transactions.Work.{Own}
use Rattle.afr_machine.specs.Transactions.Stage.{Locking, Locked, Marking, Applying, Posting, Settling, Bearing, Copying, Polling, Unlocking}
use Rattle.afr_machine.specs.States.{State, is_current, with_txn, with_phase, with_inputs, phase_of, link_of}
use Rattle.afr_machine.specs.Births.{AreLeftAlone}

-- ---- who may be asked

-- the brick granted the lock on the connection that the hub still has open
pub record HasGrant (m : State) (t k : ℕ) : Type 0 where
  pub grant : Grant
  pub granted : (m.txns t).grants k ≡ Some grant
  pub still_open : is_current (link_of m t k) grant.connection ≡ true

-- A member of the lock phase that may be asked: it was reached, it is not out, it owes no answer, and its grant is on
-- the connection that is open.
pub record IsMember (size : Size) (m : State) (t k : ℕ) : Type 0 where
  pub replica : k < size.replicas
  pub reached : (phase_of m t).reached k ≡ true
  pub not_out : (m.txns t).out k ≡ false
  pub answered : (m.txns t).waits k ≡ false
  pub grant : HasGrant m t k

-- a member to which the request of this phase is still to be sent
pub record IsNext (size : Size) (m : State) (t k : ℕ) : Type 0 where
  pub member : IsMember size m t k
  pub is_left : (m.txns t).left k ≡ true

-- ---- one guard for each request

-- locks are asked brick by brick, all cells at once
pub record MayLock (size : Size) (m : State) (t k : ℕ) (shared : Bool) (cells : List Cell) : Type 0 where
  pub replica : k < size.replicas
  pub turn : (m.txns t).stage ≡ Locking cells shared k
  pub not_out : (m.txns t).out k ≡ false
  pub answered : (m.txns t).waits k ≡ false
  pub connected : (link_of m t k).is_open ≡ true

-- a lock is released on the connection on which it was granted, also where the brick is out
pub record MayUnlock (size : Size) (m : State) (t k : ℕ) : Type 0 where
  pub replica : k < size.replicas
  pub turn : (m.txns t).stage ≡ Unlocking
  pub is_left : (m.txns t).left k ≡ true
  pub answered : (m.txns t).waits k ≡ false
  pub grant : HasGrant m t k

pub record MayMark (size : Size) (m : State) (t k u : ℕ) (cells : List Cell) : Type 0 where
  pub next : IsNext size m t k
  pub turn : (m.txns t).stage ≡ Marking u
  pub cells_are : cells ≡ (m.changes u).cells

-- the op of a change that is unsettled still; nobody else works on the cells to which it gives birth
pub record MayApply (size : Size) (m : State) (t k u : ℕ) (op : StoreOp) : Type 0 where
  pub next : IsNext size m t k
  pub turn : (m.txns t).stage ≡ Applying u
  pub op_is : op ≡ (m.changes u).op
  pub unsettled : is_unsettled (m.changes u).verdict ≡ true
  pub births_apart : AreLeftAlone m t (cells_of (births op))

-- the op of a birth has the number 0
pub record MayBear (size : Size) (m : State) (t k u : ℕ) (op : StoreOp) : Type 0 where
  pub next : IsNext size m t k
  pub turn : (m.txns t).stage ≡ Bearing
  pub cells : List Cell
  pub job_is : (m.txns t).job ≡ job.Birth cells op
  pub no_number : u ≡ 0

-- a post accuses every replica that has no op wind of the change which ended with Done, reached or not
pub record MayPost (size : Size) (m : State) (t k u : ℕ) (cells : List Cell) (accused : Replicas) : Type 0 where
  pub next : IsNext size m t k
  pub turn : (m.txns t).stage ≡ Posting u
  pub cells_are : cells ≡ (m.changes u).cells
  pub accused_are : accused ≡ outside size (m.changes u).done

-- a settle accuses every replica outside the group, reached or not
pub record MaySettle (size : Size) (m : State) (t k u : ℕ) (cells : List Cell) (accused : Replicas) : Type 0 where
  pub next : IsNext size m t k
  pub group : Replicas
  pub adopts : Bool
  pub turn : (m.txns t).stage ≡ Settling u group adopts
  pub cells_are : cells ≡ (m.changes u).cells
  pub accused_are : accused ≡ outside size group

-- a read fetches each cell from a member that is sound on it, under its own locks
pub record MayRead (size : Size) (m : State) (t k : ℕ) (cell : Cell) : Type 0 where
  pub member : IsMember size m t k
  pub turn : (m.txns t).stage ≡ Locked
  pub work_is : (m.txns t).work ≡ Own
  pub cells : List Cell
  pub fd : ℕ
  pub dir : Bool
  pub job_is : (m.txns t).job ≡ job.Read cells fd dir
  pub of_job : has_cell cells cell ≡ true
  pub sound : IsSoundIn size (phase_of m t) cell k

-- a copy fetches each cell once, from one of its sources
pub record MayFetch (size : Size) (m : State) (t k : ℕ) (cell : Cell) : Type 0 where
  pub member : IsMember size m t k
  pub run : CopyRun
  pub turn : (m.txns t).stage ≡ Copying run
  pub replacing : run.clears ≡ false
  pub of_run : has_cell run.cells cell ≡ true
  pub source : run.sources k ≡ true
  pub not_fetched : run.fetched cell ≡ None

-- a replacement carries what was fetched, to each sink once
pub record MayReplace (size : Size) (m : State) (t k : ℕ) (cell : Cell) (found : Fetched) : Type 0 where
  pub member : IsMember size m t k
  pub run : CopyRun
  pub turn : (m.txns t).stage ≡ Copying run
  pub replacing : run.clears ≡ false
  pub of_run : has_cell run.cells cell ≡ true
  pub sink : run.sinks k ≡ true
  pub fetched : run.fetched cell ≡ Some found
  pub not_replaced : run.replaced k cell ≡ false

-- the sink confirmed the replacement of each of the cells
abbrev pub is_replaced : (Cell → Bool) → List Cell → Bool
is_replaced replaced [] = true
is_replaced replaced (cell ∷ cells) = replaced cell && is_replaced replaced cells

abbrev pub is_confirmed_sink : CopyRun → ℕ → Bool
is_confirmed_sink run k = run.sinks k && is_replaced (run.replaced k) run.cells

-- whom a clear names: all sources, and the sinks that confirmed every replacement
abbrev pub cleared_by : CopyRun → Replicas
cleared_by run k = run.sources k || is_confirmed_sink run k

pub record MayClear (size : Size) (m : State) (t k : ℕ) (cells : List Cell) (who : Replicas) : Type 0 where
  pub next : IsNext size m t k
  pub run : CopyRun
  pub turn : (m.txns t).stage ≡ Copying run
  pub clearing : run.clears ≡ true
  pub cells_are : cells ≡ run.cells
  pub who_are : who ≡ cleared_by run

-- an open or an index needs no lock
pub record MayPoll (size : Size) (m : State) (t k : ℕ) : Type 0 where
  pub replica : k < size.replicas
  pub turn : (m.txns t).stage ≡ Polling
  pub is_left : (m.txns t).left k ≡ true
  pub not_out : (m.txns t).out k ≡ false
  pub answered : (m.txns t).waits k ≡ false
  pub connected : (link_of m t k).is_open ≡ true

pub record MayOpen (size : Size) (m : State) (t k : ℕ) : Type 0 where
  pub poll : MayPoll size m t k
  pub fd : ℕ
  pub gfid : Gfid
  pub job_is : (m.txns t).job ≡ job.Open fd gfid

pub record MayIndex (size : Size) (m : State) (t k : ℕ) : Type 0 where
  pub poll : MayPoll size m t k
  pub job_is : (m.txns t).job ≡ job.Index

-- nobody sends a release; an open before another request goes with that request
abbrev pub MayAsk : Size → State → ℕ → ℕ → Ask → Type 0
MayAsk size m t k (Lock shared cells) = MayLock size m t k shared cells
MayAsk size m t k Unlock = MayUnlock size m t k
MayAsk size m t k (Mark change cells) = MayMark size m t k change cells
MayAsk size m t k (Op change op) = MayApply size m t k change op ⊎ MayBear size m t k change op
MayAsk size m t k (Post change cells accused) = MayPost size m t k change cells accused
MayAsk size m t k (Fetch cell) = MayRead size m t k cell ⊎ MayFetch size m t k cell
MayAsk size m t k (Replace cell found) = MayReplace size m t k cell found
MayAsk size m t k (Clear cells who) = MayClear size m t k cells who
MayAsk size m t k (Settle change cells accused) = MaySettle size m t k change cells accused
MayAsk size m t k Index = MayIndex size m t k
MayAsk size m t k Open = MayOpen size m t k
MayAsk size m t k Release = ⊥
MayAsk size m t k OpenFirst = ⊥

-- ---- what the sending makes of the state

-- requests that may carry a descriptor, which is opened first where it is new to the connection
abbrev pub carries_fd : Ask → Bool
carries_fd (Lock shared cells) = false
carries_fd Unlock = false
carries_fd (Mark change cells) = false
carries_fd (Op change op) = true
carries_fd (Post change cells accused) = false
carries_fd (Fetch cell) = true
carries_fd (Replace cell found) = false
carries_fd (Clear cells who) = false
carries_fd (Settle change cells accused) = false
carries_fd Index = false
carries_fd Open = false
carries_fd Release = false
carries_fd OpenFirst = false

-- the requests by which a lock phase becomes one that wrote
abbrev pub writes : Ask → Bool
writes (Lock shared cells) = false
writes Unlock = false
writes (Mark change cells) = true
writes (Op change op) = false
writes (Post change cells accused) = true
writes (Fetch cell) = false
writes (Replace cell found) = true
writes (Clear cells who) = true
writes (Settle change cells accused) = true
writes Index = false
writes Open = false
writes Release = false
writes OpenFirst = false

-- the request, after the open of its descriptor where that goes first
abbrev pub asks_of : Bool → Ask → List Ask
asks_of true ask = OpenFirst ∷ ask ∷ []
asks_of false ask = ask ∷ []

abbrev pub asking : Txn → ℕ → ℕ → Bool → Ask → Txn
asking x k connection first ask = record x {
  waits = with_at x.waits k true;
  asked_on = with_at x.asked_on k connection;
  flying = with_at x.flying k (x.flying k ++ asks_of first ask);
  left = with_at x.left k false;
}

abbrev pub sender_of : State → ℕ → ℕ → Sender
sender_of m t k = record { txn = t; graph = (m.txns t).graph; connection = (link_of m t k).last }

abbrev pub wrote_if : Bool → Phase → Phase
wrote_if true phase = record phase { wrote = true }
wrote_if false phase = phase

abbrev pub inputs_of : Sender → List Ask → List Input
inputs_of by [] = []
inputs_of by (ask ∷ asks) = Asked by ask ∷ inputs_of by asks

-- the request is at the end of the brick's line
abbrev pub after_asking : State → ℕ → ℕ → Bool → Ask → State
after_asking m t k first ask =
    with_phase
    (with_txn (with_inputs m k (inputs_of (sender_of m t k) (asks_of first ask))) t (asking (m.txns t) k (link_of m t k).last first ask))
    (m.txns t).phase (wrote_if (writes ask) (phase_of m t))
