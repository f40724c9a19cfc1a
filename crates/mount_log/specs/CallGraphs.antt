-- In which event each call was submitted, and in which graph it is carried out.
use Rattle.std.specs.Prelude.{◌≡◌, ℕ, ◌≤◌, ◌+◌, ◌-◌, ◌==◌, List, [], ◌∷◌, ◌++◌, Option, None, slice_get, if◌then◌else◌}
use Rattle.script_lang.specs.declared.scripts.Action.{Action}
use Rattle.script_lang.specs.declared.scripts.Action.TheVariants as action
use Rattle.mount_log.specs.Connections.{graph_of_call}
use Rattle.mount_log.specs.Submissions.{submitted_at}
use Rattle.mount_log.specs.declared.logs.HubEvent.{HubEvent}
use Rattle.mount_log.specs.declared.logs.HubEvent.TheVariants as logged
use Rattle.mount_log.specs.declared.logs.Log.{Log}
use Rattle.mount_log.specs.declared.call_graphs.CallAt.{CallAt}

abbrev pub switches_by : Action → ℕ
switches_by (action.Switch volfile) = 1
switches_by (action.Down brick serve) = 0
switches_by (action.Up brick) = 0
switches_by (action.Cut brick) = 0
switches_by (action.Fault brick p number) = 0
switches_by action.Heal = 0

-- how many graphs an event makes
abbrev pub graphs_by : HubEvent → ℕ
graphs_by (logged.Act a) = switches_by a
graphs_by (logged.Submit session line) = 0
graphs_by (logged.Arrive brick bytes) = 0
graphs_by (logged.Run graph task) = 0
graphs_by (logged.Arm brick p count a) = 0

-- the call that the event of this number submits, where this graph is the newest
abbrev pub call_by : HubEvent → ℕ → ℕ → List CallAt
call_by (logged.Submit session line) number graph = record { event = number; graph = graph } ∷ []
call_by (logged.Act a) number graph = []
call_by (logged.Arrive brick bytes) number graph = []
call_by (logged.Run of task) number graph = []
call_by (logged.Arm brick p count a) number graph = []

-- the calls of these events, behind events of which the last has the number `last`, and the newest graph this number
abbrev pub calls_from : ℕ → ℕ → List HubEvent → List CallAt
calls_from last graph [] = []
calls_from last graph (e ∷ es) = call_by e (last + 1) graph ++ calls_from (last + 1) (graph + graphs_by e) es

-- the call of this number, from 1
abbrev pub call_at : List CallAt → ℕ → Option CallAt
call_at calls number = if number == 0 then None else slice_get calls (number - 1)

-- the event and the graph of a call
pub record IsCallAt (log : Log) (call : ℕ) (c : CallAt) : Type 0 where
  pub event_is : submitted_at log call ≡ c.event
  pub graph_is : graph_of_call log call ≡ c.graph
  pub from_one : 1 ≤ c.graph
