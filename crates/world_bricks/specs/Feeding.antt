-- What holds of the bricks of each world beside its log: a brick has served, in order, what was sent to it, but for what is still
-- in its line; and what arrived from it, in order, are the first of its outputs. Ours.
use Rattle.std.specs.Prelude.{◌≡◌, ℕ, ◌≤◌, List, [], ◌++◌, length, take, slice_get, Some}
use Rattle.graph_build.specs.declared.plans.Plan.{Plan}
use Rattle.script_lang.specs.declared.scripts.Script.{Script}
use Rattle.brick_machine.specs.Journal.{Journal}
use Rattle.brick_machine.specs.Machine.{texts_of}
use Rattle.mount_log.specs.Arrivals.{inputs_to, arrivals_from}
use Rattle.mount_log.specs.declared.logs.Log.{Log}
use Rattle.world_bricks.specs.Lines.{LineState, LinesState, new_lines, with_sent}
use Rattle.world_bricks.specs.Worlds.{IsReached}

pub record IsFed (log : Log) (brick : ℕ) (b : Journal) (line : LineState) : Type 0 where
  pub served : b.journal ++ line.inputs ≡ inputs_to brick log.sent
  pub arrived : arrivals_from brick log.events ≡ take line.arrived (texts_of b.journal)
  pub few : line.arrived ≤ length (texts_of b.journal)

-- each brick with its line, and all that was sent has gone into the lines
pub record AreFed (log : Log) (lines : LinesState) : Type 0 where
  pub delivered : lines.delivered ≡ length log.sent
  pub each : (brick : ℕ) (b : Journal) (line : LineState) → slice_get lines.bricks brick ≡ Some b → slice_get lines.queues brick ≡ Some line → IsFed log brick b line

-- so are those of every world that is reached from one in which nothing has happened
abbrev pub WorldsAreFed : Type 0
WorldsAreFed =
    (script : Script) (plans : List Plan) (many : ℕ) (log log_after : Log) (lines_after : LinesState) → log.events ≡ []
    → IsReached script log (with_sent (new_lines script plans many) log.sent) log_after lines_after → AreFed log_after lines_after
