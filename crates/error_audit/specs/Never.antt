-- I/O errors by bricks to which the call's graph had opened no connection by the reply. The audit says yes of them, whatever else
-- the log has.
use Rattle.std.specs.Prelude.{◌≡◌, ℕ, ◌+◌, ◌<◌, ◌≤◌, ◌^◌, List, Some, Contains, map}
use Rattle.std.specs.List.{AllByRecursion}
use Rattle.std.specs.List.Sorted.{IsStrictlyIncreasing}
use Rattle.fop_types.specs.declared.answers.Answer.{Answer}
use Rattle.fop_types.specs.declared.answers.Answer.TheVariants as answer
use Rattle.fop_types.specs.declared.answers.IoError.{IoError}
use Rattle.fop_types.specs.declared.answers.IoError.TheVariants as io
use Rattle.fop_types.specs.declared.jobs.SetPlan.{SetPlan}
use Rattle.graph_build.specs.declared.plans.Plan.{Plan}
use Rattle.script_lang.specs.declared.scripts.Script.{Script}
use Rattle.mount_log.specs.CallGraphs.{calls_from, call_at}
use Rattle.mount_log.specs.Causes.{brick_of, AreEnough, set_of_call}
use Rattle.mount_log.specs.declared.call_graphs.CallAt.{CallAt}
use Rattle.mount_log.specs.declared.logs.Log.{Log}
use Rattle.mount_log.specs.declared.logs.ReplyLine.{ReplyLine}
use Rattle.error_audit.specs.Opened.{openings_of, openings_to}

-- the brick is one of the set, and no line that was sent up to the event opens a connection of the graph to it
pub record IsNever (log : Log) (plan : SetPlan) (graph until : ℕ) (pair : ℕ × ℕ) : Type 0 where
  pub member : Contains plan.bricks pair.0
  pub number_is : pair.1 ≡ 0
  pub none : openings_to until graph pair.0 (openings_of log.sent) ≡ 0

-- so of each brick that is named, which are enough
pub record AreNever (script : Script) (plans : List Plan) (log : Log) (reply : ReplyLine) (set : ℕ) (lost : List (ℕ × ℕ)) : Type 0 where
  pub at : CallAt
  pub at_is : call_at (calls_from 0 1 log.events) reply.call ≡ Some at
  pub low : at.graph < 2 ^ 32
  pub in_time : at.event ≤ reply.event + 1
  pub plan : SetPlan
  pub set_is : set_of_call script plans log reply.call set ≡ Some plan
  pub each : AllByRecursion (IsNever log plan at.graph reply.event) lost
  pub rising : IsStrictlyIncreasing (map brick_of lost)
  pub enough : AreEnough plan (map brick_of lost)

abbrev pub IsKnownError : Script → List Plan → Log → ReplyLine → IoError → Type 0
IsKnownError script plans log reply (io.Quorum set lost) = AreNever script plans log reply set lost
IsKnownError script plans log reply (io.Split set rows) = ⊥
IsKnownError script plans log reply (io.Fault set faults lost) = ⊥

-- an answer that is no I/O error, or one of this kind
abbrev pub IsKnown : Script → List Plan → Log → ReplyLine → Answer → Type 0
IsKnown script plans log reply (answer.Io error) = IsKnownError script plans log reply error
IsKnown script plans log reply answer.Done = Unit {0}
IsKnown script plans log reply (answer.Count n) = Unit {0}
IsKnown script plans log reply (answer.Bytes bytes) = Unit {0}
IsKnown script plans log reply (answer.Stat kind mode size) = Unit {0}
IsKnown script plans log reply (answer.List items) = Unit {0}
IsKnown script plans log reply (answer.App error) = Unit {0}
