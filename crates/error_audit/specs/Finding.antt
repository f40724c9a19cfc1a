-- Evidence where the searches look for it, by what is looked up in a log.
use Rattle.std.specs.Prelude.{◌≡◌, ◌≢◌, ℕ, ◌<◌, ◌≤◌, ◌^◌, ◌⊎◌, List, [], ◌++◌, Option, None, Some, is_some, length, map, slice_get, MatchBool}
use Rattle.std.specs.List.{AllByRecursion, AllZip, count_by}
use Rattle.std.specs.List.Sorted.{IsStrictlyIncreasing}
use Rattle.fop_types.specs.declared.answers.Answer.{Answer}
use Rattle.fop_types.specs.declared.answers.Answer.TheVariants as answer
use Rattle.fop_types.specs.declared.answers.IoError.{IoError}
use Rattle.fop_types.specs.declared.answers.IoError.TheVariants as io
use Rattle.fop_types.specs.declared.answers.SplitRow.{SplitRow}
use Rattle.fop_types.specs.declared.cells.Cell.{Cell}
use Rattle.fop_types.specs.declared.contents.Row.{Row}
use Rattle.fop_types.specs.declared.jobs.SetPlan.{SetPlan}
use Rattle.graph_build.specs.declared.plans.Plan.{Plan}
use Rattle.script_lang.specs.declared.scripts.Script.{Script}
use Rattle.mount_log.specs.CallGraphs.{call_at}
use Rattle.mount_log.specs.Causes.{brick_of, AreEnough, HasShown, all_rows, HasNoSource, set_named, set_of_call}
use Rattle.mount_log.specs.Locks.{IsLastPhase}
use Rattle.mount_log.specs.declared.call_graphs.CallAt.{CallAt}
use Rattle.mount_log.specs.declared.logs.Log.{Log}
use Rattle.mount_log.specs.declared.logs.ReplyLine.{ReplyLine}
use Rattle.error_audit.specs.AtPlaces.{IsFaultAmong, HasFaultAmong, IsLostBy}
use Rattle.error_audit.specs.LockTable.{locks_at, AreOfCalls}
use Rattle.error_audit.specs.Opened.{openings_to, openings_at}
use Rattle.error_audit.specs.Showing.{IsGrantAmong, IsSized, AreMarks}
use Rattle.error_audit.specs.code.Searches.{replies_to, ends_at, marks_at, named, has_row_of, last_in, first_lock, phase_at, of_first, loss_of, out_of}
use Rattle.error_audit.specs.declared.connections.Opening.{Opening}
use Rattle.error_audit.specs.declared.evidence.Found.{Found}
use Rattle.error_audit.specs.declared.grants.LockPhase.{LockPhase}
use Rattle.error_audit.specs.declared.locks.LockAt.{LockAt}
use Rattle.error_audit.specs.declared.losses.End.{End}
use Rattle.error_audit.specs.declared.losses.Loss.{Loss}
use Rattle.error_audit.specs.declared.losses.Span.{Span}
use Rattle.error_audit.specs.declared.tables.Tables.{Tables}

-- ---- the tables

abbrev pub openings_in : Tables → ℕ → List Opening
openings_in tables brick = openings_at (map (λ l. l.items) tables.openings.items) brick

abbrev pub ends_in : Tables → ℕ → List End
ends_in tables brick = ends_at (map (λ l. l.items) tables.clues.ends.items) brick

abbrev pub locks_in : Tables → ℕ → List LockAt
locks_in tables call = locks_at (map (λ l. l.items) tables.locks.items) call

abbrev pub replies_in : Tables → ℕ → List Found
replies_in tables call = replies_to (map (λ l. l.items) tables.clues.replies.items) call

-- ---- losses

-- the loss of a pair that is looked for
abbrev pub loss_in : Tables → Span → ℕ → ℕ × ℕ → Loss
loss_in tables span until pair = loss_of (openings_in tables pair.0) (ends_in tables pair.0) span.graph pair.0 pair.1 until

abbrev pub IsPairLost : Log → Tables → SetPlan → Span → ℕ → ℕ × ℕ → Type 0
IsPairLost log tables plan span until pair = IsLostBy log (openings_in tables pair.0) plan span.graph span.since until pair (loss_in tables span until pair)

-- bricks that are enough were lost so
pub record AreQuorumLost (log : Log) (tables : Tables) (plan : SetPlan) (span : Span) (until : ℕ) (lost : List (ℕ × ℕ)) : Type 0 where
  pub each : AllByRecursion (IsPairLost log tables plan span until) lost
  pub rising : IsStrictlyIncreasing (map brick_of lost)
  pub enough : AreEnough plan (map brick_of lost)

-- bricks that are enough answered by faults, or were lost so
pub record AreFaults (log : Log) (tables : Tables) (plan : SetPlan) (span : Span) (call until : ℕ) (faults lost : List (ℕ × ℕ)) : Type 0 where
  pub some : faults ≢ []
  pub each_fault : AllByRecursion (IsFaultAmong log plan call until (replies_in tables call)) faults
  pub each_lost : AllByRecursion (IsPairLost log tables plan span until) lost
  pub rising_faults : IsStrictlyIncreasing (map brick_of faults)
  pub rising_lost : IsStrictlyIncreasing (map brick_of lost)
  pub enough : AreEnough plan (map brick_of faults ++ map brick_of lost)

-- ---- a brick of a split

-- the loss of a brick that was out
abbrev pub loss_out : Tables → Span → ℕ → ℕ → Loss
loss_out tables span until brick = out_of (openings_in tables brick) (ends_in tables brick) span.graph brick until

-- with the number of its last connection
abbrev pub pair_out : Tables → Span → ℕ → ℕ → ℕ × ℕ
pair_out tables span until brick = (brick, named (openings_to (loss_out tables span until brick).found span.graph brick (openings_in tables brick)))

abbrev pub WasLost : Log → Tables → SetPlan → Span → ℕ → ℕ → Type 0
WasLost log tables plan span until brick =
    IsLostBy log (openings_in tables brick) plan span.graph span.since until (pair_out tables span until brick) (loss_out tables span until brick)

abbrev pub IsFoundOut : Log → Tables → SetPlan → Span → ℕ → ℕ → ℕ → Type 0
IsFoundOut log tables plan span call until brick = WasLost log tables plan span until brick ⊎ HasFaultAmong log plan call until (replies_in tables call) brick

abbrev pub IsFoundGranted : Log → Tables → ℕ → ℕ → ℕ → List Cell → ℕ → Type 0
IsFoundGranted log tables call until from cells brick = IsGrantAmong log call until from cells brick (last_in (locks_in tables call) brick 0) (replies_in tables call)

-- a brick of which there is a row was reached, and each other one was out
abbrev pub IsFoundShown : Log → Tables → SetPlan → Span → ℕ → ℕ → ℕ → List Cell → List SplitRow → ℕ → Type 0
IsFoundShown log tables plan span call until from cells rows brick =
    MatchBool (has_row_of rows brick) (IsFoundGranted log tables call until from cells brick) (IsFoundOut log tables plan span call until brick)

-- ---- a split

-- the place of the cell among the cells; their number where it is none of them
pub record IsPlaceOf (cells : List Cell) (cell : Cell) (place : ℕ) : Type 0 where
  pub within : place ≤ length cells
  pub there : place < length cells → slice_get cells place ≡ Some cell
  pub first : (k : ℕ) → k < place → slice_get cells k ≡ Some cell → ⊥

-- the places of the cells of which there are rows, by those of the first brick
abbrev pub ArePlaces : List Cell → List SplitRow → List ℕ → Type 0
ArePlaces cells rows places = AllZip (λ (row : SplitRow) (place : ℕ). IsPlaceOf cells row.cell place) (of_first rows) places

abbrev pub marks_in : Tables → List Cell → List ℕ
marks_in tables cells = marks_at (λ l. l.items) tables.clues.marks.entries cells

abbrev pub phase_in_tables : Log → Tables → ℕ → List SplitRow → Option LockPhase
phase_in_tables log tables call rows = phase_at log call (first_lock rows (locks_in tables call) None)

-- by what the bricks of a set showed in a lock phase these rows are answered, and leave no source
pub record IsAnswered (log : Log) (plan : SetPlan) (phase : LockPhase) (rows : List SplitRow) (shown : List (Option (List Row))) : Type 0 where
  pub enough : plan.q ≤ count_by is_some shown
  pub rows_are : (places : List ℕ) → ArePlaces phase.cells rows places → rows ≡ all_rows plan.bricks shown phase.cells places
  pub no_source : (places : List ℕ) → ArePlaces phase.cells rows places → HasNoSource log plan phase.from phase.cells shown places

-- The lock phase is the call's last one, each brick of the set is found in it or out, and by whatever they showed these rows are
-- answered.
pub record IsSplitIn (log : Log) (tables : Tables) (plan : SetPlan) (span : Span) (call until : ℕ) (phase : LockPhase) (rows : List SplitRow) : Type 0 where
  pub only : AreOfCalls log (map (λ l. l.items) tables.locks.items)
  pub low : call < length tables.locks.items
  pub last_phase : IsLastPhase log plan call phase.from
  pub each : AllByRecursion (IsFoundShown log tables plan span call until phase.from phase.cells rows) plan.bricks
  pub sized : IsSized (length plan.bricks) plan.q
  pub marks : AreMarks log plan phase.from phase.cells (marks_in tables phase.cells)
  pub answered : (shown : List (Option (List Row))) → AllZip (HasShown log plan call until phase.from phase.cells) plan.bricks shown → IsAnswered log plan phase rows shown

pub record IsSplitFound (log : Log) (tables : Tables) (plan : SetPlan) (span : Span) (call until : ℕ) (rows : List SplitRow) : Type 0 where
  pub phase : LockPhase
  pub phase_is : phase_in_tables log tables call rows ≡ Some phase
  pub split : IsSplitIn log tables plan span call until phase rows

-- ---- an I/O error

-- its evidence
abbrev pub IsFound : Log → Tables → SetPlan → Span → ℕ → ℕ → IoError → Type 0
IsFound log tables plan span call until (io.Quorum set lost) = AreQuorumLost log tables plan span until lost
IsFound log tables plan span call until (io.Split set rows) = IsSplitFound log tables plan span call until rows
IsFound log tables plan span call until (io.Fault set faults lost) = AreFaults log tables plan span call until faults lost

-- the graph and the submission of a call
abbrev pub span_at : CallAt → Span
span_at at = record { graph = at.graph; since = at.event }

pub record HasFound (script : Script) (plans : List Plan) (log : Log) (tables : Tables) (reply : ReplyLine) (error : IoError) : Type 0 where
  pub at : CallAt
  pub at_is : call_at tables.calls.items reply.call ≡ Some at
  pub low : at.graph < 2 ^ 32
  pub plan : SetPlan
  pub set : set_of_call script plans log reply.call (set_named error) ≡ Some plan
  pub evidence : IsFound log tables plan (span_at at) reply.call reply.event error

abbrev pub IsReplyFound : Script → List Plan → Log → Tables → ReplyLine → Answer → Type 0
IsReplyFound script plans log tables reply (answer.Io error) = HasFound script plans log tables reply error
IsReplyFound script plans log tables reply answer.Done = Unit {0}
IsReplyFound script plans log tables reply (answer.Count n) = Unit {0}
IsReplyFound script plans log tables reply (answer.Bytes bytes) = Unit {0}
IsReplyFound script plans log tables reply (answer.Stat kind mode size) = Unit {0}
IsReplyFound script plans log tables reply (answer.List items) = Unit {0}
IsReplyFound script plans log tables reply (answer.App error) = Unit {0}
