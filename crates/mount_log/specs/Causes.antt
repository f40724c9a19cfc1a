-- What an I/O error rests on: bricks that were lost to the call's graph, each with the number of its last connection; bricks
-- that answered a request of the call by a fault, each with its place in the journal; or rows that the bricks of a set showed
-- in the call's last lock phase, by which there is no source.
use Rattle.std.specs.Prelude.{◌≡◌, ◌≢◌, ℕ, ◌+◌, ◌-◌, ◌<◌, ◌≤◌, ◌==◌, ◌⊎◌, false, List, [], ◌∷◌, ◌++◌, Option, None, Some, Contains, is_some, length, map, slice_get, slice_index_or}
use Rattle.std.specs.List.{AllByRecursion, AllZip, IsDistinct, count_by}
use Rattle.std.specs.List.Sorted.{IsStrictlyIncreasing}
use Rattle.fop_types.specs.declared.answers.Answer.{Answer}
use Rattle.fop_types.specs.declared.answers.Answer.TheVariants as answer
use Rattle.fop_types.specs.declared.answers.IoError.{IoError}
use Rattle.fop_types.specs.declared.answers.IoError.TheVariants as io
use Rattle.fop_types.specs.declared.answers.SplitRow.{SplitRow}
use Rattle.fop_types.specs.declared.cells.Cell.{Cell}
use Rattle.fop_types.specs.declared.contents.Row.{Row}
use Rattle.fop_types.specs.declared.jobs.SetPlan.{SetPlan}
use Rattle.fop_types.specs.declared.messages.BrickRep.{BrickRep}
use Rattle.fop_types.specs.declared.messages.BrickRep.TheVariants as rep
use Rattle.fop_types.specs.declared.messages.BrickReq.TheVariants as req
use Rattle.fop_types.specs.declared.messages.DoneArm.TheVariants as done
use Rattle.fop_types.specs.declared.messages.Input.TheVariants as input
use Rattle.fop_types.specs.declared.messages.OutKind.TheVariants as out
use Rattle.fop_types.specs.declared.messages.Output.{Output}
use Rattle.afr_changelog.specs.Soundness.{IsSound}
use Rattle.graph_build.specs.declared.plans.Plan.{Plan}
use Rattle.script_lang.specs.declared.scripts.Script.{Script}
use Rattle.wire_messages.specs.Messages.{input_in, output_in}
use Rattle.wire_messages.specs.declared.messages.Message.TheVariants.{Whole}
use Rattle.xlator_law.specs.Numbers.{wind_number, open_before}
use Rattle.mount_log.specs.declared.logs.HubEvent.TheVariants as logged
use Rattle.mount_log.specs.declared.logs.Log.{Log}
use Rattle.mount_log.specs.declared.logs.ReplyLine.{ReplyLine}
use Rattle.mount_log.specs.declared.logs.SentLine.{SentLine}
use Rattle.mount_log.specs.declared.logs.WindLine.{WindLine}
use Rattle.mount_log.specs.Connections.{is_open_after, last_connection, graph_of_call}
use Rattle.mount_log.specs.Graphs.{volfiles_of}
use Rattle.mount_log.specs.Locks.{IsLock, IsLastPhase}
use Rattle.mount_log.specs.Submissions.{submitted_at}

-- ---- the set

abbrev pub set_of_plan : Option Plan → ℕ → Option SetPlan
set_of_plan None set = None
set_of_plan (Some plan) set = slice_get plan.sets set

abbrev pub plan_of_volfile : List Plan → Option ℕ → Option Plan
plan_of_volfile plans None = None
plan_of_volfile plans (Some volfile) = slice_get plans volfile

-- a set, by the plan of the graph in which a call is carried out
abbrev pub set_of_call : Script → List Plan → Log → ℕ → ℕ → Option SetPlan
set_of_call script plans log call set =
    set_of_plan (plan_of_volfile plans (slice_get (volfiles_of script log) (graph_of_call log call - 1))) set

-- ---- the evidence

-- A brick of the set was without an open connection in the call's graph at some moment between the call's submission and
-- this event, after `moment` events. It was found to be out later, after `found` events, by then perhaps with a new
-- connection, and is named with the number of its last connection at that moment.
pub record IsLost (log : Log) (plan : SetPlan) (call until : ℕ) (pair : ℕ × ℕ) : Type 0 where
  pub member : Contains plan.bricks pair.0
  pub moment : ℕ
  pub since : submitted_at log call ≤ moment + 1
  pub closed : is_open_after log (graph_of_call log call) pair.0 moment ≡ false
  pub found : ℕ
  pub later : moment ≤ found
  pub before : found ≤ until
  pub number : pair.1 ≡ last_connection log (graph_of_call log call) pair.0 found

-- a wind of a call was opened in the log: that of a request, or of the open that goes before it
pub record IsWindOf (log : Log) (call wind : ℕ) : Type 0 where
  pub place : ℕ
  pub line : WindLine
  pub there : slice_get log.winds place ≡ Some line
  pub call_is : line.call ≡ call
  pub wind_is : (wind_number line.wind ≡ wind) ⊎ (wind_number (open_before line.wind) ≡ wind)

-- the brick answered this to a request of the call, by the event of this number
pub record IsRepliedBy (log : Log) (call until brick wind : ℕ) (r : BrickRep) (output : Output) : Type 0 where
  pub place : ℕ
  pub bytes : List ℕ
  pub arrives : slice_get log.events place ≡ Some (logged.Arrive brick bytes)
  pub by_then : place < until
  pub read : output_in bytes ≡ Whole output
  pub reply : output.kind ≡ out.Reply wind r
  pub of_call : IsWindOf log call wind

-- a brick answered Fault to a request of the call at this place in its journal; a lock is never answered late by a fault
pub record IsFaulted (log : Log) (plan : SetPlan) (call until : ℕ) (pair : ℕ × ℕ) : Type 0 where
  pub member : Contains plan.bricks pair.0
  pub wind : ℕ
  pub output : Output
  pub answered : IsRepliedBy log call until pair.0 wind rep.Fault output
  pub place : pair.1 ≡ output.taken

abbrev pub brick_of : ℕ × ℕ → ℕ
brick_of pair = pair.0

-- enough bricks that the others are no quorum
abbrev pub AreEnough : SetPlan → List ℕ → Type 0
AreEnough plan bricks = IsDistinct ◌==◌ bricks × (length plan.bricks - plan.q + 1 ≤ length bricks)

pub record IsQuorumLost (log : Log) (plan : SetPlan) (call until : ℕ) (lost : List (ℕ × ℕ)) : Type 0 where
  pub each : AllByRecursion (IsLost log plan call until) lost
  pub rising : IsStrictlyIncreasing (map brick_of lost)
  pub enough : AreEnough plan (map brick_of lost)

pub record IsFault (log : Log) (plan : SetPlan) (call until : ℕ) (faults lost : List (ℕ × ℕ)) : Type 0 where
  pub some : faults ≢ []
  pub each_fault : AllByRecursion (IsFaulted log plan call until) faults
  pub each_lost : AllByRecursion (IsLost log plan call until) lost
  pub rising_faults : IsStrictlyIncreasing (map brick_of faults)
  pub rising_lost : IsStrictlyIncreasing (map brick_of lost)
  pub enough : AreEnough plan (map brick_of faults ++ map brick_of lost)

-- ---- rows

-- a brick answered the call's lock of these cells, asked at this place or behind it, by a row for each cell
pub record IsGranted (log : Log) (call until from : ℕ) (cells : List Cell) (brick : ℕ) (rows : List Row) : Type 0 where
  pub at : ℕ
  pub later : from ≤ at
  pub wind : ℕ
  pub lock : IsLock log call at brick wind cells
  pub output : Output
  pub answered : IsRepliedBy log call until brick wind (rep.Done (done.Rows rows)) output

-- the call could not use the brick: it was lost, or answered a fault
pub data IsOut (log : Log) (plan : SetPlan) (call until brick : ℕ) : Type 0 where
  Lost : (number : ℕ) → IsLost log plan call until (brick, number) → IsOut log plan call until brick
  Failed : (place : ℕ) → IsFaulted log plan call until (brick, place) → IsOut log plan call until brick

-- what a brick of the set showed in the lock phase, if it was reached
abbrev pub HasShown : Log → SetPlan → ℕ → ℕ → ℕ → List Cell → ℕ → Option (List Row) → Type 0
HasShown log plan call until from cells brick (Some rows) = IsGranted log call until from cells brick rows
HasShown log plan call until from cells brick None = IsOut log plan call until brick

abbrev pub row_at : ℕ → Option (List Row) → Option Row
row_at place None = None
row_at place (Some rows) = slice_get rows place

-- the rows of the cell at a place, by replica
abbrev pub rows_of : List (Option (List Row)) → ℕ → List (Option Row)
rows_of shown place = map (row_at place) shown

-- a row as it is answered
abbrev pub with_names : Option Row → Cell → ℕ → List SplitRow
with_names None cell brick = []
with_names (Some row) cell brick = record { cell = cell; brick = brick; row = row } ∷ []

-- the rows of a cell as they are answered, by brick, where the first of these bricks is that of replica k
abbrev pub rows_from : List (Option Row) → Cell → ℕ → List ℕ → List SplitRow
rows_from rows cell k [] = []
rows_from rows cell k (brick ∷ bricks) = with_names (slice_index_or rows k None) cell brick ++ rows_from rows cell (k + 1) bricks

abbrev pub answered_rows : List ℕ → List (Option Row) → Option Cell → List SplitRow
answered_rows bricks rows None = []
answered_rows bricks rows (Some cell) = rows_from rows cell 0 bricks

-- the rows of the cells at these places as they are answered, by cell and then by brick
abbrev pub all_rows : List ℕ → List (Option (List Row)) → List Cell → List ℕ → List SplitRow
all_rows bricks shown cells [] = []
all_rows bricks shown cells (place ∷ places) = answered_rows bricks (rows_of shown place) (slice_get cells place) ++ all_rows bricks shown cells places

-- a change of just these cells was marked on a brick of the set, at a place before this one among what was sent
pub record IsMarked (log : Log) (plan : SetPlan) (before : ℕ) (cells : List Cell) : Type 0 where
  pub at : ℕ
  pub earlier : at < before
  pub line : SentLine
  pub there : slice_get log.sent at ≡ Some line
  pub member : Contains plan.bricks line.brick
  pub wind : ℕ
  pub graph : ℕ
  pub change : ℕ
  pub read : input_in line.bytes ≡ Whole (input.Request wind graph (req.Mark change cells))

abbrev pub IsSoundAt : SetPlan → List (Option (List Row)) → ℕ → ℕ → Type 0
IsSoundAt plan shown replica place = IsSound (rows_of shown place) (length plan.bricks) plan.q replica

-- By the rows of the cells at these places there is no source: one of the cells has no sound replica; or no replica is sound
-- on all of them, and they are those of a change, which was to be settled.
pub data HasNoSource (log : Log) (plan : SetPlan) (from : ℕ) (cells : List Cell) (shown : List (Option (List Row))) (places : List ℕ) : Type 0 where
  OfCell : (place : ℕ) → Contains places place → ((replica : ℕ) → IsSoundAt plan shown replica place → ⊥) → HasNoSource log plan from cells shown places
  OfChange : IsMarked log plan from cells → ((replica : ℕ) → ((place : ℕ) → Contains places place → IsSoundAt plan shown replica place) → ⊥)
      → HasNoSource log plan from cells shown places

-- The rows are those that the bricks of a set, but for those that were out, showed in the call's last lock phase. They are so
-- many as a quorum, and by the rows there is no source.
pub record IsSplit (log : Log) (plan : SetPlan) (call until : ℕ) (rows : List SplitRow) : Type 0 where
  pub from : ℕ
  pub last_phase : IsLastPhase log plan call from
  pub cells : List Cell
  pub shown : List (Option (List Row))
  pub each : AllZip (HasShown log plan call until from cells) plan.bricks shown
  pub enough : plan.q ≤ count_by is_some shown
  pub places : List ℕ
  pub rows_are : rows ≡ all_rows plan.bricks shown cells places
  pub no_source : HasNoSource log plan from cells shown places

-- ---- an I/O error has its cause

abbrev pub set_named : IoError → ℕ
set_named (io.Quorum set lost) = set
set_named (io.Split set rows) = set
set_named (io.Fault set faults lost) = set

abbrev pub HasEvidence : Log → SetPlan → ℕ → ℕ → IoError → Type 0
HasEvidence log plan call until (io.Quorum set lost) = IsQuorumLost log plan call until lost
HasEvidence log plan call until (io.Split set rows) = IsSplit log plan call until rows
HasEvidence log plan call until (io.Fault set faults lost) = IsFault log plan call until faults lost

pub record HasCause (script : Script) (plans : List Plan) (log : Log) (reply : ReplyLine) (error : IoError) : Type 0 where
  pub plan : SetPlan
  pub set : set_of_call script plans log reply.call (set_named error) ≡ Some plan
  pub evidence : HasEvidence log plan reply.call reply.event error

abbrev pub IsCaused : Script → List Plan → Log → ReplyLine → Answer → Type 0
IsCaused script plans log reply (answer.Io error) = HasCause script plans log reply error
IsCaused script plans log reply other = Unit {0}

abbrev pub AreCaused : Script → List Plan → Log → Type 0
AreCaused script plans log = (k : ℕ) (reply : ReplyLine) → slice_get log.replies k ≡ Some reply → IsCaused script plans log reply reply.answer
