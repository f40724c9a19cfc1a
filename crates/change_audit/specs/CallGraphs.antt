-- The graph of each call, and the volfile of each graph, as tables.
use Rattle.std.specs.Prelude.{◌≡◌, ℕ, ◌+◌, ◌-◌, ◌≤◌, ◌==◌, List, [], ◌∷◌, Option, None, Some, length, slice_get, if◌then◌else◌}
use Rattle.std.specs.List.{list_any}
use Rattle.fop_types.specs.declared.jobs.SetPlan.{SetPlan}
use Rattle.graph_build.specs.declared.plans.Plan.{Plan}
use Rattle.script_lang.specs.declared.scripts.Script.{Script}
use Rattle.mount_log.specs.Graphs.{switched_by, volfiles_of}
use Rattle.mount_log.specs.declared.logs.HubEvent.{HubEvent}
use Rattle.mount_log.specs.declared.logs.HubEvent.TheVariants as logged
use Rattle.mount_log.specs.declared.logs.Log.{Log}
use Rattle.change_audit.specs.declared.call_graphs.CallGraphs.{CallGraphs}

-- the graph of the call that an event submits, before the graphs of others
abbrev pub submitted_in : ℕ → HubEvent → List ℕ → List ℕ
submitted_in graph (logged.Submit session line) rest = graph ∷ rest
submitted_in graph (logged.Arrive brick bytes) rest = rest
submitted_in graph (logged.Run number task) rest = rest
submitted_in graph (logged.Act a) rest = rest
submitted_in graph (logged.Arm brick p count a) rest = rest

-- the graphs of the calls that these events submit, where the newest graph before them has this number
abbrev pub graphs_from : ℕ → List HubEvent → List ℕ
graphs_from graph [] = []
graphs_from graph (e ∷ es) = submitted_in graph e (graphs_from (graph + length (switched_by e [])) es)

pub record AreGraphsOf (script : Script) (log : Log) (tables : CallGraphs) : Type 0 where
  pub calls : tables.calls ≡ graphs_from 1 log.events
  pub volfiles : tables.volfiles ≡ volfiles_of script log

-- a call, by its number from 1, has this graph in the table
pub record HasGraph (tables : CallGraphs) (call graph : ℕ) : Type 0 where
  pub from_one : 1 ≤ call
  pub there : slice_get tables.calls (call - 1) ≡ Some graph

-- the number of the first of these sets that has the brick
abbrev pub set_for : List SetPlan → ℕ → Option ℕ
set_for [] brick = None
set_for (s ∷ sets) brick = if list_any (λ b. b == brick) s.bricks then Some s.number else set_for sets brick

-- so for the sets of a plan, if there is one
abbrev pub set_in_plan : Option Plan → ℕ → Option ℕ
set_in_plan None brick = None
set_in_plan (Some plan) brick = set_for plan.sets brick
