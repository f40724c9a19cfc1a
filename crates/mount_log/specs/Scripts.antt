-- The scripts that are run, each with the plans of its volfiles. Ours.
use Rattle.std.specs.Prelude.{◌≡◌, ℕ, List, length}
use Rattle.std.specs.List.{AllByRecursion}
use Rattle.script_lang.specs.Accepted.{IsAccepted}
use Rattle.script_lang.specs.declared.scripts.Script.{Script}
use Rattle.graph_build.specs.NodeLaw.{AreNodes}
use Rattle.graph_build.specs.PlanLaw.{AreSets}
use Rattle.graph_build.specs.declared.plans.Plan.{Plan}

-- a plan that a volfile gives over so many bricks
pub record IsPlanOver (bricks : ℕ) (plan : Plan) : Type 0 where
  pub nodes : AreNodes bricks plan.nodes plan.sets
  pub sets : AreSets plan.sets

-- the script is one that is accepted, and these are the plans of its volfiles
pub record IsScript (script : Script) (plans : List Plan) : Type 0 where
  pub accepted : IsAccepted script
  pub many : length plans ≡ length script.volfiles
  pub each : AllByRecursion (IsPlanOver (length script.bricks)) plans
