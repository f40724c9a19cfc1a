-- The run of a seed, and what it leaves in a rack. Ours.
use Rattle.std.specs.Prelude.{◌≡◌, ℕ, List, [], length, None}
use Rattle.graph_build.specs.declared.plans.Plan.{Plan}
use Rattle.script_lang.specs.declared.scripts.Script.{Script}
use Rattle.hub_calls.specs.Hubs.{agenda_before}
use Rattle.hub_calls.specs.declared.racks.Rack.{Rack}
use Rattle.world_bricks.specs.Lines.{new_lines, with_sent}
use Rattle.world_bricks.specs.Runs.{IsRunOf}
use Rattle.world_bricks.specs.Worlds.{WorldState}

-- the world of a script before any event: what its first graph sends is in the lines of its bricks, and the first phase that has
-- something left has begun
pub record IsStart (script : Script) (plans : List Plan) (w : WorldState) : Type 0 where
  pub script_is : w.script ≡ script
  pub plans_are : w.plans ≡ plans
  pub no_events : w.log.events ≡ []
  pub lines_are : w.lines ≡ with_sent (new_lines script plans (length script.bricks)) w.log.sent
  pub agenda_is : w.agenda ≡ agenda_before script w.log w.tasks
  pub goes : w.stop ≡ None

-- the rack has the log and the bricks that the run of a seed has left
pub record IsSeeded (seed : ℕ) (script : Script) (plans : List Plan) (rack : Rack) : Type 0 where
  pub start : WorldState
  pub after : WorldState
  pub begins : IsStart script plans start
  pub run : IsRunOf seed start after
  pub rack_is : rack ≡ record { bricks = after.lines.bricks; log = after.log }
