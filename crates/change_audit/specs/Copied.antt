-- Copies were made: each copy that the log has is of a cell whose content a brick of a set answered to a fetch, which is sound by
-- the rows that the copy names, and which the sink, another brick of the set, replaced by just this content: its replacement was
-- sent in the event in which that answer arrived, for a wind of the same call, and confirmed by the event of the copy. No two
-- copies have the same replacement.
use Rattle.std.specs.Prelude.{◌≡◌, ◌≢◌, ℕ, ◌+◌, ◌-◌, ◌<◌, ◌==◌, List, [], ◌∷◌, Option, None, Some, Contains, length, map, slice_get, if◌then◌else◌}
use Rattle.fop_types.specs.declared.answers.SplitRow.{SplitRow}
use Rattle.fop_types.specs.declared.contents.Content.{Content as Held}
use Rattle.fop_types.specs.declared.contents.Row.{Row}
use Rattle.fop_types.specs.declared.copy_jobs.CopyRecord.{CopyRecord}
use Rattle.fop_types.specs.declared.jobs.SetPlan.{SetPlan}
use Rattle.fop_types.specs.declared.messages.BrickReq.TheVariants.{Fetch, Replace}
use Rattle.fop_types.specs.declared.messages.DoneArm.TheVariants.{Nothing, Content}
use Rattle.afr_changelog.specs.Soundness.{IsSound}
use Rattle.graph_build.specs.declared.plans.Plan.{Plan}
use Rattle.script_lang.specs.declared.scripts.Script.{Script}
use Rattle.brick_machine.specs.Journal.{Journal}
use Rattle.mount_log.specs.Causes.{plan_of_volfile, set_of_plan}
use Rattle.mount_log.specs.Graphs.{volfiles_of}
use Rattle.mount_log.specs.declared.logs.Log.{Log}
use Rattle.change_audit.specs.Answered.{IsDoneIn, IsWindFor, IsOpenedIn}

-- the row of a brick among some rows of a cell, if there is one
abbrev pub row_for : List SplitRow → ℕ → Option Row
row_for [] brick = None
row_for (r ∷ rows) brick = if r.brick == brick then Some r.row else row_for rows brick

-- by these rows of a cell this brick of the set is sound
pub record IsSoundBy (plan : SetPlan) (rows : List SplitRow) (brick : ℕ) : Type 0 where
  pub replica : ℕ
  pub brick_is : slice_get plan.bricks replica ≡ Some brick
  pub sound : IsSound (map (row_for rows) plan.bricks) (length plan.bricks) plan.q replica

-- by the rows that a copy names its source is sound
abbrev pub HasSoundSource : SetPlan → CopyRecord → Type 0
HasSoundSource plan copy = IsSoundBy plan copy.rows copy.source

-- the source and the sink of a copy are two bricks of one set of a graph, and the source is sound
pub record IsWithinSet (script : Script) (plans : List Plan) (log : Log) (graph : ℕ) (copy : CopyRecord) : Type 0 where
  pub set : ℕ
  pub plan : SetPlan
  pub plan_is : set_of_plan (plan_of_volfile plans (slice_get (volfiles_of script log) (graph - 1))) set ≡ Some plan
  pub source : HasSoundSource plan copy
  pub sink : Contains plan.bricks copy.sink
  pub differ : copy.source ≢ copy.sink

-- In a call and a graph the source answered the fetch of the cell, and the sink has confirmed by the event of the copy, on this
-- wind, the replacement by what the source had answered.
pub record IsReplaced (log : Log) (bricks : List Journal) (copy : CopyRecord) (number call graph wind : ℕ) : Type 0 where
  pub content : Held
  pub fetch : ℕ
  pub fetched_at : ℕ
  pub replaced_at : ℕ
  pub fetched : IsDoneIn log bricks copy.source fetch graph fetched_at (Fetch 0 copy.cell) (Content content copy.last)
  pub fetch_opened : IsWindFor log.winds call fetch
  pub opened : IsOpenedIn log.winds call wind (fetched_at + 1)
  pub replaced : IsDoneIn log bricks copy.sink wind graph replaced_at (Replace copy.cell copy.last content) Nothing
  pub in_time : replaced_at < number

-- the copy was made by the replacement on this wind
pub record IsMade (script : Script) (plans : List Plan) (log : Log) (bricks : List Journal) (copy : CopyRecord) (number wind : ℕ) : Type 0 where
  pub call : ℕ
  pub graph : ℕ
  pub within : IsWithinSet script plans log graph copy
  pub replaced : IsReplaced log bricks copy number call graph wind

-- the copy at a place was made by a replacement that is its own
pub record HasReplacement (script : Script) (plans : List Plan) (log : Log) (bricks : List Journal) (copy_of : ℕ → ℕ) (k number : ℕ) (copy : CopyRecord) : Type 0 where
  pub wind : ℕ
  pub own : copy_of wind ≡ k
  pub made : IsMade script plans log bricks copy number wind

-- Each copy and each skip has the number of its event; and each replacement has the place of the one copy that it makes.
pub record CopiesAreMade (script : Script) (plans : List Plan) (log : Log) (bricks : List Journal) : Type 0 where
  pub copied : length log.copied ≡ length log.copies
  pub skipped : length log.skipped ≡ length log.skips
  pub copy_of : ℕ → ℕ
  pub each : (k number : ℕ) (copy : CopyRecord) → slice_get log.copies k ≡ Some copy → slice_get log.copied k ≡ Some number → HasReplacement script plans log bricks copy_of k number copy
