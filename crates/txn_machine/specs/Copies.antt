-- The copies of `self_heal`: the record that the machine has of a copy under way, at the moment after a turn that sends
-- requests, and that each request meets its guard.
use Rattle.std.specs.Prelude.{◌≡◌, ℕ, ◌≤◌, Bool, true, false, List, Option, Some, None}
use Rattle.fop_types.specs.Bounds.{Each}
use Rattle.fop_types.specs.declared.answers.SplitRow.{SplitRow}
use Rattle.fop_types.specs.declared.cells.Cell.{Cell}
use Rattle.fop_types.specs.declared.contents.Content.{Content}
use Rattle.fop_types.specs.declared.copy_jobs.CopyJob.{CopyJob}
use Rattle.fop_types.specs.declared.messages.BrickRep.{BrickRep}
use Rattle.fop_types.specs.declared.messages.BrickReq.{BrickReq}
use Rattle.fop_types.specs.declared.messages.BrickReq.TheVariants as req
use Rattle.afr_machine.specs.Copies.{Fetched}
use Rattle.afr_machine.specs.Replicas.{Size}
use Rattle.afr_machine.specs.Requests.{Ask}
use Rattle.afr_machine.specs.Sending.{is_confirmed_sink}
use Rattle.afr_machine.specs.States.{State, phase_of}
use Rattle.afr_machine.specs.Transactions.{Stage, CopyRun as CopyRecord}
use Rattle.afr_machine.specs.Turns.{open_grants}
use Rattle.afr_phases.specs.Answers.{content_in}
use Rattle.afr_phases.specs.CopyWork.{HasWork}
use Rattle.afr_phases.specs.Flags.{flag, flags_of, names}
use Rattle.afr_phases.specs.Outs.{is_out}
use Rattle.afr_phases.specs.Waves.{is_asked}
use Rattle.self_heal.specs.declared.run.CopyRun.{CopyRun}
use Rattle.self_heal.specs.declared.stage.CopyNeed.{CopyNeed}
use Rattle.self_heal.specs.declared.stage.CopyNeed.TheVariants as need
use Rattle.self_heal.specs.declared.stage.Origin.{Origin}
use Rattle.self_heal.specs.declared.stage.Stage.{Stage as CopyStage}
use Rattle.self_heal.specs.declared.stage.Stage.TheVariants as stage
use Rattle.self_heal.specs.Runs.{new_run, next_cell, current_cell, aspect_at, answered}
use Rattle.self_heal.specs.Turning.{is_under_way}
use Rattle.txn_machine.specs.Asks.{MayBeAsked}

-- ---- requests

abbrev pub replace_of : Cell → Option Fetched → Option Ask
replace_of cell None = None
replace_of cell (Some found) = Some (Ask.Replace cell found)

-- A request of a copy as the machine has it, where this was fetched: a replacement is one of what was fetched of its cell.
abbrev pub copy_ask_of : (Cell → Option Fetched) → BrickReq → Option Ask
copy_ask_of fetched (req.Fetch fd cell) = Some (Ask.Fetch cell)
copy_ask_of fetched (req.Replace cell last content) = replace_of cell (fetched cell)
copy_ask_of fetched (req.Clear cells mask) = Some (Ask.Clear cells (names mask))
copy_ask_of fetched (req.Lock call is_shared cells) = None
copy_ask_of fetched (req.Unlock call) = None
copy_ask_of fetched (req.Mark change cells) = None
copy_ask_of fetched (req.Op change fd op) = None
copy_ask_of fetched (req.Post change cells mask) = None
copy_ask_of fetched (req.Settle cells mask) = None
copy_ask_of fetched req.Index = None
copy_ask_of fetched (req.Open fd gfid) = None
copy_ask_of fetched (req.Release fd) = None

-- ---- the record

abbrev pub is_clearing : CopyStage → Bool
is_clearing (stage.Fetching from) = false
is_clearing (stage.Replacing origin) = false
is_clearing (stage.Clearing current) = true
is_clearing stage.Over = false

-- the content of the cell was fetched, with the number of its last change
pub record HasFetched (fetched : Cell → Option Fetched) (cell : Cell) (content : Content) (last : ℕ) : Type 0 where
  pub found : Fetched
  pub there : fetched cell ≡ Some found
  pub content_is : found.copy.content ≡ content
  pub last_is : found.last ≡ last

-- a replacement carries what was fetched of its cell
abbrev pub IsCarried : (Cell → Option Fetched) → BrickReq → Type 0
IsCarried fetched (req.Replace cell last content) = HasFetched fetched cell content last
IsCarried fetched (req.Fetch fd cell) = Unit {0}
IsCarried fetched (req.Clear cells mask) = Unit {0}
IsCarried fetched (req.Lock call is_shared cells) = Unit {0}
IsCarried fetched (req.Unlock call) = Unit {0}
IsCarried fetched (req.Mark change cells) = Unit {0}
IsCarried fetched (req.Op change fd op) = Unit {0}
IsCarried fetched (req.Post change cells mask) = Unit {0}
IsCarried fetched (req.Settle cells mask) = Unit {0}
IsCarried fetched req.Index = Unit {0}
IsCarried fetched (req.Open fd gfid) = Unit {0}
IsCarried fetched (req.Release fd) = Unit {0}

-- The record of a copy; `shows` is the content that the answer of this turn carried. Its cells, sources and sinks; those whose
-- locks are held are members of the lock phase, and none of them is out there who is used here; those who are asked owe no
-- answer, and the clear is still to be sent to them. How far it has come: the current cell is not fetched while it is to be
-- fetched, and then as it was shown, and it is replaced nowhere yet; while the clear is sent, the sinks that confirmed every cell
-- are those that the copy has as current.
pub record IsCopyOf (size : Size) (m : State) (t : ℕ) (run : CopyRun) (shows : Option (Content × ℕ)) (copy : CopyRecord) : Type 0 where
  pub stage_is : (m.txns t).stage ≡ Stage.Copying copy
  pub cells : copy.cells ≡ run.job.cells
  pub sources : copy.sources ≡ flag (flags_of run.job.sources)
  pub sinks : copy.sinks ≡ flag (flags_of run.job.sinks)
  pub clears : copy.clears ≡ is_clearing run.stage
  pub members : (k : ℕ) → names run.job.held k ≡ true → (phase_of m t).reached k ≡ true
  pub outs : (k : ℕ) → names run.job.held k ≡ true → (m.txns t).out k ≡ true → is_out run.outs k ≡ true
  pub answered : (k : ℕ) → is_asked run.wave k ≡ true → (m.txns t).waits k ≡ false
  pub is_left : is_clearing run.stage ≡ true → (k : ℕ) → is_asked run.wave k ≡ true → (m.txns t).left k ≡ true
  pub not_fetched : (from : ℕ) (cell : Cell) → run.stage ≡ stage.Fetching from → current_cell run ≡ Some cell → copy.fetched cell ≡ None
  pub fetched : (origin : Origin) (cell : Cell) (content : Content) → run.stage ≡ stage.Replacing origin → current_cell run ≡ Some cell → ◌≡◌ {A = Option (Content × ℕ)} shows (Some (content, origin.last)) → HasFetched copy.fetched cell content origin.last
  pub not_replaced : (origin : Origin) (cell : Cell) (k : ℕ) → run.stage ≡ stage.Replacing origin → current_cell run ≡ Some cell → copy.replaced k cell ≡ false
  pub confirmed : (current : List Bool) (k : ℕ) → run.stage ≡ stage.Clearing current → is_confirmed_sink copy k ≡ flag current k

-- Each request meets its guard, where the lock of its replica is held still on the connection on which it was granted: else the
-- replica answers Gone. A replacement carries what was fetched.
abbrev pub MeetsCopyGuard : Size → State → ℕ → CopyRecord → ℕ → BrickReq → Type 0
MeetsCopyGuard size m t copy k r = (open_grants m t k ≡ true → MayBeAsked size m t k (copy_ask_of copy.fetched r)) × IsCarried copy.fetched r

abbrev pub AreCopiesMet : ℕ → CopyRun → CopyNeed → Option (Content × ℕ) → Type 0
AreCopiesMet n run (need.Send list) shows =
    (size : Size) (m : State) (t : ℕ) (copy : CopyRecord) → size.replicas ≡ n → IsCopyOf size m t run shows copy
    → Each (λ (r : ℕ × BrickReq). MeetsCopyGuard size m t copy r.0 r.1) list
AreCopiesMet n run (need.Done done) shows = Unit {0}
AreCopiesMet n run need.Wait shows = Unit {0}

-- ---- the laws

abbrev pub CopiesBeginMeet : Type 0
CopiesBeginMeet = (n : ℕ) (job : CopyJob) (rows : List SplitRow) → n ≤ 5 → HasWork n job
    → AreCopiesMet n (next_cell (new_run job rows)).0 (next_cell (new_run job rows)).1 None

abbrev pub CopyAnswersMeet : Type 0
CopyAnswersMeet = (n k mark : ℕ) (run : CopyRun) (rep : BrickRep) → n ≤ 5 → is_under_way n run ≡ true → is_asked run.wave k ≡ true
    → AreCopiesMet n (answered run k rep mark).0 (answered run k rep mark).1 (content_in rep (aspect_at (current_cell run)))
