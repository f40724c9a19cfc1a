-- What is found of one copy.
use Rattle.std.specs.Prelude.{◌≡◌, ◌≢◌, ℕ, ◌+◌, ◌-◌, List, Some, Contains, slice_get}
use Rattle.fop_types.specs.declared.copy_jobs.CopyRecord.{CopyRecord}
use Rattle.fop_types.specs.declared.messages.BrickReq.{BrickReq}
use Rattle.fop_types.specs.declared.messages.BrickReq.TheVariants.{Fetch, Replace}
use Rattle.fop_types.specs.declared.messages.DoneArm.TheVariants.{Nothing, Content}
use Rattle.fop_types.specs.declared.messages.Input.TheVariants.{Request}
use Rattle.fop_types.specs.declared.jobs.SetPlan.{SetPlan}
use Rattle.graph_build.specs.declared.plans.Plan.{Plan}
use Rattle.script_lang.specs.declared.scripts.Script.{Script}
use Rattle.wire_xdr.specs.WireText.{input_text}
use Rattle.brick_machine.specs.Journal.{Journal}
use Rattle.mount_log.specs.Causes.{plan_of_volfile, set_of_plan}
use Rattle.mount_log.specs.declared.logs.Log.{Log}
use Rattle.change_audit.specs.Answered.{IsDoneIn, IsWindFor, IsOpenedIn}
use Rattle.change_audit.specs.Claims.{claim_of}
use Rattle.change_audit.specs.Copied.{HasSoundSource, IsMade}
use Rattle.change_audit.specs.declared.call_graphs.CallGraphs.{CallGraphs}
use Rattle.change_audit.specs.declared.copy_requests.Replacement.{Replacement}

-- a brick was sent this request as the input of its journal that is counted so, from 1
pub record IsSentAs (bricks : List Journal) (brick taken wind graph : ℕ) (req : BrickReq) : Type 0 where
  pub at : Journal
  pub there : slice_get bricks brick ≡ Some at
  pub place : ℕ
  pub request : slice_get at.journal place ≡ Some (input_text (Request wind graph req))
  pub counted : taken ≡ place + 1

-- the request of a replacement
abbrev pub replace_of : Replacement → BrickReq
replace_of r = Replace r.cell r.last r.content

-- the brick has confirmed this replacement by what arrived in an event
abbrev pub IsConfirmed : Log → List Journal → ℕ → ℕ → Replacement → Type 0
IsConfirmed log bricks brick event r = IsDoneIn log bricks brick r.wind r.graph event (replace_of r) Nothing

-- the brick has answered, by what arrived in an event, the fetch on this wind by what the replacement carries
abbrev pub IsFetchedFor : Log → List Journal → ℕ → ℕ → Replacement → ℕ → Type 0
IsFetchedFor log bricks brick event r wind = IsDoneIn log bricks brick wind r.graph event (Fetch 0 r.cell) (Content r.content r.last)

-- the replacement is of the cell and the last change of a copy
pub record IsOfCopy (copy : CopyRecord) (r : Replacement) : Type 0 where
  pub cell : r.cell ≡ copy.cell
  pub last : r.last ≡ copy.last

-- the brick has answered, by what arrived in an event, a fetch on a wind of the call by what the replacement carries
pub record HasFetch (log : Log) (bricks : List Journal) (brick call event : ℕ) (r : Replacement) : Type 0 where
  pub wind : ℕ
  pub fetched : IsFetchedFor log bricks brick event r wind
  pub opened : IsWindFor log.winds call wind

-- the replacement is of a copy, and was sent in the event at a place, in which the source answered its fetch in the call
pub record IsReplacementOf (log : Log) (bricks : List Journal) (copy : CopyRecord) (call event : ℕ) (r : Replacement) : Type 0 where
  pub own : IsOfCopy copy r
  pub fetch : HasFetch log bricks copy.source call event r
  pub opened : IsOpenedIn log.winds call r.wind (event + 1)

-- the source and the sink of a copy are two bricks of one set of a graph, by its volfile in the table, and the source is sound
pub record IsWithinTables (plans : List Plan) (tables : CallGraphs) (graph : ℕ) (copy : CopyRecord) : Type 0 where
  pub set : ℕ
  pub plan : SetPlan
  pub plan_is : set_of_plan (plan_of_volfile plans (slice_get tables.volfiles (graph - 1))) set ≡ Some plan
  pub source : HasSoundSource plan copy
  pub sink : Contains plan.bricks copy.sink
  pub differ : copy.source ≢ copy.sink

-- a replacement that makes the copy was taken for the one at a place
pub record IsCopyClaimed (script : Script) (plans : List Plan) (log : Log) (bricks : List Journal) (claims : List (ℕ × ℕ)) (k number : ℕ) (copy : CopyRecord) : Type 0 where
  pub wind : ℕ
  pub claimed : claim_of claims wind ≡ Some k
  pub made : IsMade script plans log bricks copy number wind

-- the copy at a place has its replacement
abbrev pub IsCopyDue : Script → List Plan → Log → List Journal → List (ℕ × ℕ) → ℕ → CopyRecord → Type 0
IsCopyDue script plans log bricks claims k copy = (number : ℕ) → slice_get log.copied k ≡ Some number → IsCopyClaimed script plans log bricks claims k number copy
