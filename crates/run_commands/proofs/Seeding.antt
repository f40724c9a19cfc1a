-- The run of a seed leaves its log and its bricks in the rack.
use Rattle.std.proofs.Common.{◌≡◌, ap, ◌∙◌}
use Rattle.std.specs.Prelude.{ℕ, List, [], length, Option, None, Some, Result, Ok, Err, IsOk, OnOk, IfOk, IfSome}
use Rattle.graph_build.specs.declared.plans.Plan.{Plan}
use Rattle.script_lang.specs.declared.scripts.Script.{Script}
use Rattle.hub_calls.specs.Hubs.{agenda_before}
use Rattle.hub_calls.specs.declared.racks.Rack.{Rack}
use Rattle.world_bricks.specs.Lines.{new_lines, with_sent}
use Rattle.world_bricks.specs.Runs.{IsRunOf}
use Rattle.world_bricks.specs.Worlds.{WorldState}
use Rattle.run_commands.specs.Seeds.{IsStart, IsSeeded}

well : {T E : Type 0} (r : Result T E) (A : Type 0) → OnOk r A → IsOk r → A
well (Ok x) A h is = h
well (Err e) A h is = absurd cc

pub starts : (script : Script) (plans : List Plan) (w : WorldState)
    → w ≡ record { script = script; plans = plans; log = w.log; agenda = w.agenda; tasks = w.tasks; lines = with_sent (new_lines script plans (length script.bricks)) w.log.sent; stop = None } → w.log.events ≡ []
    → w.agenda ≡ agenda_before script w.log w.tasks → IsStart script plans w
starts script plans w is none agenda = record {
  script_is = ap (λ (x : WorldState). x.script) is;
  plans_are = ap (λ (x : WorldState). x.plans) is;
  no_events = none;
  lines_are = ap (λ (x : WorldState). x.lines) is;
  agenda_is = agenda;
  goes = ap (λ (x : WorldState). x.stop) is;
}

pub seeded : {T E : Type 0} (seed : ℕ) (script : Script) (plans : List Plan) (start after : WorldState) (ran : Result T E) (left rack : Rack)
    → IsStart script plans start → OnOk ran (IsRunOf seed start after) → left ≡ record { bricks = after.lines.bricks; log = after.log } → (rack ≡ left) × IsOk ran → IsSeeded seed script plans rack
seeded seed script plans start after ran left rack begins run left_is put = record {
  start = start;
  after = after;
  begins = begins;
  run = well ran (IsRunOf seed start after) run put.1;
  rack_is = put.0 ∙ left_is;
}

-- where a text was made
pub where_made : {T E : Type 0} (r : Result (Option T) E) (A B : Type 0) → (A → B) → IfOk r (λ o. IfSome o (λ _. A)) → IfOk r (λ o. IfSome o (λ _. B))
where_made (Ok None) A B f h = tt
where_made (Ok (Some x)) A B f h = f h
where_made (Err e) A B f h = tt
