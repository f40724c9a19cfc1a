-- The graphs of a run: one for the start, and one for each switch that was carried out.
use Rattle.std.specs.Prelude.{ℕ, List, [], ◌∷◌}
use Rattle.script_lang.specs.declared.scripts.Action.{Action}
use Rattle.script_lang.specs.declared.scripts.Action.TheVariants as action
use Rattle.script_lang.specs.declared.scripts.Script.{Script}
use Rattle.mount_log.specs.declared.logs.HubEvent.{HubEvent}
use Rattle.mount_log.specs.declared.logs.HubEvent.TheVariants as logged
use Rattle.mount_log.specs.declared.logs.Log.{Log}

abbrev pub with_switch : Action → List ℕ → List ℕ
with_switch (action.Switch volfile) rest = volfile ∷ rest
with_switch other rest = rest

abbrev pub switched_by : HubEvent → List ℕ → List ℕ
switched_by (logged.Act a) rest = with_switch a rest
switched_by (logged.Submit session line) rest = rest
switched_by (logged.Arrive brick bytes) rest = rest
switched_by (logged.Run graph task) rest = rest
switched_by (logged.Arm brick p count a) rest = rest

abbrev pub switches_in : List HubEvent → List ℕ
switches_in [] = []
switches_in (e ∷ es) = switched_by e (switches_in es)

-- the volfile of each graph, graph 1 first: that of the start, and then that of each switch that was carried out
abbrev pub volfiles_of : Script → Log → List ℕ
volfiles_of script log = script.start ∷ switches_in log.events
