-- What holds of every copy, whatever is handed in to it.
use Rattle.std.specs.Prelude.{◌≡◌, ℕ, ◌+◌, ◌*◌, ◌<◌, ◌≤◌, ◌⊎◌, true, List, Some, length, slice_get}
use Rattle.fop_types.specs.Bounds.{Each}
use Rattle.fop_types.specs.declared.answers.SplitRow.{SplitRow}
use Rattle.fop_types.specs.declared.cells.Cell.{Cell}
use Rattle.fop_types.specs.declared.contents.Content.{Content}
use Rattle.fop_types.specs.declared.contents.Mask.{Mask}
use Rattle.fop_types.specs.declared.copy_jobs.CopyJob.{CopyJob}
use Rattle.fop_types.specs.declared.messages.BrickRep.TheVariants as rep
use Rattle.fop_types.specs.declared.messages.BrickReq.{BrickReq}
use Rattle.fop_types.specs.declared.messages.BrickReq.TheVariants as req
use Rattle.fop_types.specs.declared.messages.DoneArm.TheVariants as arm
use Rattle.afr_phases.specs.Flags.{names}
use Rattle.afr_phases.specs.Waves.{quiet, is_asked}
use Rattle.self_heal.specs.declared.run.CopyRun.{CopyRun}
use Rattle.self_heal.specs.declared.stage.CopyNeed.{CopyNeed}
use Rattle.self_heal.specs.declared.stage.CopyNeed.TheVariants as need
use Rattle.self_heal.specs.Handed.{Handed, after, given, AreAnswers, HasAnswered}
use Rattle.self_heal.specs.Work.{work}

-- ---- to whom requests go

abbrev pub IsCellOf : CopyJob → Cell → Type 0
IsCellOf job cell = (i : ℕ) × (slice_get job.cells i ≡ Some cell)

-- Cells of the job are fetched from its sources and replaced on its sinks, and the clear is for all of them at once. Each
-- of these replicas held its lock when the copy began.
abbrev pub IsOfJob : CopyJob → ℕ → BrickReq → Type 0
IsOfJob job k (req.Fetch fd cell) = (fd ≡ 0) × (names job.sources k ≡ true) × (names job.held k ≡ true) × IsCellOf job cell
IsOfJob job k (req.Replace cell last content) = (names job.sinks k ≡ true) × (names job.held k ≡ true) × IsCellOf job cell
IsOfJob job k (req.Clear cells mask) = (cells ≡ job.cells) × (names job.held k ≡ true)
IsOfJob job k other = ⊥

abbrev pub RequestsGoToTheJob : Type 0
RequestsGoToTheJob = (job : CopyJob) (rows : List SplitRow) (hs : List Handed) → Each (λ (r : ℕ × BrickReq). IsOfJob job r.0 r.1) (given (after job rows hs).1)

-- ---- what a clear takes back

-- the replica confirmed the replacement of the cell by what another one answered to a fetch of it
pub record HasCopy (job : CopyJob) (rows : List SplitRow) (hs : List Handed) (cell : Cell) (k : ℕ) : Type 0 where
  pub source : ℕ
  pub last : ℕ
  pub content : Content
  pub fetched : HasAnswered job rows hs source (req.Fetch 0 cell) (rep.Done (arm.Content content last))
  pub replaced : HasAnswered job rows hs k (req.Replace cell last content) (rep.Done arm.Nothing)

-- each replica that a clear names is a source, or it has confirmed every cell that is cleared
abbrev pub IsBacked : CopyJob → List SplitRow → List Handed → Mask → BrickReq → Type 0
IsBacked job rows hs sources (req.Clear cells mask) =
    (k : ℕ) → k < 5 → names mask k ≡ true → (names sources k ≡ true) ⊎ ((cell : Cell) (i : ℕ) → slice_get cells i ≡ Some cell → HasCopy job rows hs cell k)
IsBacked job rows hs sources other = Unit {0}

abbrev pub ClearsFollowReplacements : Type 0
ClearsFollowReplacements = (job : CopyJob) (rows : List SplitRow) (hs : List Handed) → AreAnswers job rows hs
    → Each (λ (r : ℕ × BrickReq). IsBacked job rows hs job.sources r.1) (given (after job rows hs).1)

-- each replica that is current at the end is a sink, and it has confirmed every cell
abbrev pub HaveEveryCell : CopyJob → List SplitRow → List Handed → CopyJob → CopyNeed → Type 0
HaveEveryCell job rows hs own (need.Done done) =
    (k : ℕ) → k < 5 → names done.current k ≡ true → (names own.sinks k ≡ true) × ((cell : Cell) (i : ℕ) → slice_get own.cells i ≡ Some cell → HasCopy job rows hs cell k)
HaveEveryCell job rows hs own (need.Send list) = Unit {0}
HaveEveryCell job rows hs own need.Wait = Unit {0}

abbrev pub CurrentHaveEveryCell : Type 0
CurrentHaveEveryCell = (job : CopyJob) (rows : List SplitRow) (hs : List Handed) → AreAnswers job rows hs → HaveEveryCell job rows hs job (after job rows hs).1

-- ---- a copy ends

-- at most six requests for each cell, one more for each source and five for the clear, all of them answered
abbrev pub most : CopyJob → ℕ
most job = 6 * length job.cells + 10

-- each answer leaves less work, so that after so many answers nobody is left to answer
abbrev pub EachAnswerLeavesLess : Type 0
EachAnswerLeavesLess = (job : CopyJob) (rows : List SplitRow) (hs : List Handed) → AreAnswers job rows hs
    → work (after job rows hs).0 + length hs ≤ most job

-- while the copy waits a replica is asked, and after its end nobody is
abbrev pub IsOpen : CopyRun → CopyNeed → Type 0
IsOpen run (need.Send list) = Unit {0}
IsOpen run (need.Done done) = run.wave ≡ quiet
IsOpen run need.Wait = (k : ℕ) × (is_asked run.wave k ≡ true)

abbrev pub WaitsAreOpen : Type 0
WaitsAreOpen = (job : CopyJob) (rows : List SplitRow) (hs : List Handed) → AreAnswers job rows hs → IsOpen (after job rows hs).0 (after job rows hs).1
