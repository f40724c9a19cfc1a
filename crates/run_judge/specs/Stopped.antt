-- A run that stopped before its script's end.
use Rattle.std.specs.Prelude.{List}
use Rattle.script_lang.specs.declared.scripts.Script.{Script}
use Rattle.brick_machine.specs.Journal.{Journal}
use Rattle.mount_log.specs.Winds.{WindsAreOnce, NoWindIsLeft}
use Rattle.mount_log.specs.declared.logs.Log.{Log}
use Rattle.log_audit.specs.Honest.{HasHonestArrivals}
use Rattle.run_judge.specs.Headline.{AreBricksOf}

-- a run that needed a further wind where none was left: its log and its bricks
pub record IsStopped (script : Script) (log : Log) (bricks : List Journal) : Type 0 where
  pub none_left : NoWindIsLeft log.winds
  pub once : WindsAreOnce log.winds
  pub honest : HasHonestArrivals log
  pub all_bricks : AreBricksOf script log bricks
