-- What a text is accepted as: its script, with a plan for each of its volfiles; every `switch` follows the
-- plans before it. Else the text has a first refusal: its length, its grammar by line, its plans in the
-- order of volfiles, its followings by line.
use Rattle.std.specs.Prelude.{ℕ, nat_lt, Bool, false, List, [], ◌∷◌, ◌++◌, Option, Some, None, Result, Ok, Err, length, slice_get, if◌then◌else◌}
use Rattle.volfile.specs.declared.volumes.Volfile.{Volfile}
use Rattle.volfile.specs.declared.volumes.Volume.{Volume}
use Rattle.script_lang.specs.declared.errors.ScriptError.{ScriptError}
use Rattle.script_lang.specs.declared.errors.ScriptError.TheVariants as error
use Rattle.script_lang.specs.declared.errors.ScriptKind.TheVariants.{TooLong, NotFollowing}
use Rattle.script_lang.specs.declared.scripts.Script.{Script}
use Rattle.volfile.specs.declared.brick_lines.BrickLine.{BrickLine}
use Rattle.script_lang.specs.declared.scripts.NamedVolfile.{NamedVolfile}
use Rattle.script_lang.specs.declared.scripts.Phase.{Phase}
use Rattle.script_lang.specs.declared.scripts.ControlLine.{ControlLine}
use Rattle.script_lang.specs.declared.scripts.Action.{Action}
use Rattle.script_lang.specs.declared.scripts.Action.TheVariants.{Down, Up, Cut, Fault, Heal, Switch}
use Rattle.script_lang.specs.ScriptText.{parsed}
use Rattle.graph_build.specs.declared.plans.Plan.{Plan}
use Rattle.graph_build.specs.declared.errors.PlanError.{PlanError}
use Rattle.graph_build.specs.declared.errors.PlanError.TheVariants as fault
use Rattle.graph_build.specs.Plans.{planned}
use Rattle.graph_build.specs.Follows.{sets_follow}
use Rattle.script_commands.specs.declared.refusals.Refusal.{Refusal}
use Rattle.script_commands.specs.declared.refusals.Refusal.TheVariants.{OfScript, OfPlan}
use Rattle.script_commands.specs.declared.plans.Accepted.{Accepted}

-- ---- plans
-- the line of a volume of a volfile
abbrev pub line_of : Option Volume → ℕ
line_of None = 0
line_of (Some volume) = volume.line

abbrev pub volume_line : Volfile → ℕ → ℕ
volume_line volfile number = line_of (slice_get volfile.volumes number)

-- out of memory is no plan and no refusal, and never what is planned
abbrev pub plan_then : {A : Type 0} → Result Plan PlanError → Volfile → (Plan → Result A Refusal) → Result A Refusal
plan_then (Ok plan) volfile more = more plan
plan_then (Err (fault.At volume kind)) volfile more = Err (OfPlan (volume_line volfile volume) kind)
plan_then (Err fault.Mem) volfile more = Err (OfScript 0 TooLong)

-- the plans of these volfiles, behind those that are done
abbrev pub plans_of : List Plan → List NamedVolfile → List BrickLine → Result (List Plan) Refusal
plans_of done [] bricks = Ok done
plans_of done (v ∷ volfiles) bricks = plan_then (planned v.volfile.volumes bricks) v.volfile (λ plan. plans_of (done ++ plan ∷ []) volfiles bricks)

-- ---- followings
abbrev pub follows_at : Option Plan → Option Plan → Bool
follows_at (Some old) (Some new) = sets_follow old.sets old.sets new.sets
follows_at (Some old) None = false
follows_at None new = false

-- the number of the newest plan after a control, or its line where it is refused
abbrev pub switched : List Plan → ℕ → ℕ → ℕ → Result ℕ ℕ
switched plans newest volfile line = if follows_at (slice_get plans newest) (slice_get plans volfile) then Ok volfile else Err line

abbrev pub after_action : List Plan → ℕ → Action → ℕ → Result ℕ ℕ
after_action plans newest (Switch volfile) line = switched plans newest volfile line
after_action plans newest (Down brick served) line = Ok newest
after_action plans newest (Up brick) line = Ok newest
after_action plans newest (Cut brick) line = Ok newest
after_action plans newest (Fault brick proc nth) line = Ok newest
after_action plans newest Heal line = Ok newest

abbrev pub go_on : Result ℕ ℕ → (ℕ → Result ℕ ℕ) → Result ℕ ℕ
go_on (Ok newest) more = more newest
go_on (Err line) more = Err line

abbrev pub after_controls : List Plan → ℕ → List ControlLine → Result ℕ ℕ
after_controls plans newest [] = Ok newest
after_controls plans newest (c ∷ controls) = go_on (after_action plans newest c.action c.line) (λ next. after_controls plans next controls)

abbrev pub after_phases : List Plan → ℕ → List Phase → Result ℕ ℕ
after_phases plans newest [] = Ok newest
after_phases plans newest (p ∷ phases) = go_on (after_controls plans newest p.controls) (λ next. after_phases plans next phases)

-- ---- a text
abbrev pub following : Script → List Plan → Result ℕ ℕ → Result Accepted Refusal
following script plans (Ok newest) = Ok (record { script = script; plans = plans })
following script plans (Err line) = Err (OfScript line NotFollowing)

abbrev pub with_plans : Script → Result (List Plan) Refusal → Result Accepted Refusal
with_plans script (Err refusal) = Err refusal
with_plans script (Ok plans) = following script plans (after_phases plans script.start script.phases)

abbrev pub with_script : Result Script ScriptError → Result Accepted Refusal
with_script (Ok script) = with_plans script (plans_of [] script.volfiles script.bricks)
with_script (Err (error.At line kind)) = Err (OfScript line kind)
with_script (Err error.Mem) = Err (OfScript 0 TooLong)

-- a text of more than 2,097,152 bytes is too long
abbrev pub accepted : List ℕ → Result Accepted Refusal
accepted text = if nat_lt 2097152 (length text) then Err (OfScript 0 TooLong) else with_script (parsed text)
