-- What contracts see of a world: its script with the plans, the log, the agenda and the ready tasks, which decide what is due in the
-- hub, the bricks with their lines, and why it has stopped; and what each event makes of log, lines and agenda. Ours.
use Rattle.std.specs.Prelude.{◌≡◌, ℕ, ◌+◌, Bool, true, false, ◌&&◌, List, [], ◌∷◌, length, is_some, Option, None, Some}
use Rattle.graph_build.specs.declared.plans.Plan.{Plan}
use Rattle.script_lang.specs.declared.scripts.Script.{Script}
use Rattle.xlator_law.specs.declared.winds.Stop.{Stop}
use Rattle.mount_log.specs.declared.logs.HubEvent.{HubEvent}
use Rattle.mount_log.specs.declared.logs.HubEvent.TheVariants as logged
use Rattle.mount_log.specs.declared.logs.Log.{Log}
use Rattle.mount_log.specs.Connects.{control_input}
use Rattle.mount_log.specs.Logs.{with_event}
use Rattle.hub_tables.specs.Arming.{is_armable}
use Rattle.hub_tables.specs.Agendas.{AgendaState, with_submission, with_output, with_action, with_arm}
use Rattle.hub_calls.specs.Dues.{is_idle, may_run, may_submit}
use Rattle.script_lang.specs.declared.scripts.Action.{Action}
use Rattle.fop_types.specs.declared.messages.Proc.{Proc}
use Rattle.hub_calls.specs.Hubs.{AddsEvent, AddsInput, AddsSubmission, is_of_brick, ActsWhere, ClosesWith, is_due_output}
use Rattle.world_bricks.specs.Lines.{LinesState, with_sent, next_input, may_serve, with_served, next_output, with_arrival}
use Rattle.world_bricks.specs.declared.events.Event.{Event}
use Rattle.world_bricks.specs.declared.events.Event.TheVariants as event

pub record WorldState : Type 0 where
  pub script : Script
  pub plans : List Plan
  pub log : Log
  pub agenda : AgendaState
  pub tasks : List (ℕ × ℕ)
  pub lines : LinesState
  pub stop : Option Stop

-- ---- events

-- an event of the hub: the log has it more, with its lines, and what was sent has gone into the bricks' lines
pub record HubDoes (e : HubEvent) (log : Log) (lines : LinesState) (log_after : Log) (lines_after : LinesState) : Type 0 where
  pub event : AddsEvent log log_after e
  pub sent : lines_after ≡ with_sent lines log_after.sent

-- a session submits a line of the script
pub record Submits (script : Script) (session : ℕ) (log : Log) (lines : LinesState) (log_after : Log) (lines_after : LinesState) : Type 0 where
  pub submission : AddsSubmission script log log_after session
  pub sent : lines_after ≡ with_sent lines log_after.sent

-- the next output of a brick arrives
pub record Arrives (brick : ℕ) (log : Log) (lines : LinesState) (log_after : Log) (lines_after : LinesState) : Type 0 where
  pub output : List ℕ
  pub next : next_output lines brick ≡ Some output
  pub does : HubDoes (logged.Arrive brick output) log (with_arrival lines brick) log_after lines_after

-- a brick serves its next input; the hub has no part in it
pub record Serves (brick : ℕ) (lines lines_after : LinesState) : Type 0 where
  pub input : List ℕ
  pub next : next_input lines brick ≡ Some input
  pub there : may_serve lines brick ≡ true
  pub after : lines_after ≡ with_served lines brick input

-- an action is carried out: where it sends its brick an input, the log has this more, and nothing else but the event
pub record Acts (a : Action) (log : Log) (lines : LinesState) (log_after : Log) (lines_after : LinesState) : Type 0 where
  pub does : HubDoes (logged.Act a) log lines log_after lines_after
  pub input : AddsInput (length log.events + 1) (control_input a) (with_event log (logged.Act a)) log_after

-- an action is armed: the log has the event more, and nothing else
pub record Arms (brick : ℕ) (p : Proc) (count : ℕ) (a : Action) (log : Log) (lines : LinesState) (log_after : Log) (lines_after : LinesState) : Type 0 where
  pub does : HubDoes (logged.Arm brick p count a) log lines log_after lines_after
  pub alone : log_after ≡ with_event log (logged.Arm brick p count a)

-- what an event makes of the log and of the bricks with their lines
abbrev pub Happens : Script → Event → Log → LinesState → Log → LinesState → Type 0
Happens script (event.Submit session) log lines log_after lines_after = Submits script session log lines log_after lines_after
Happens script (event.Arrive brick) log lines log_after lines_after = Arrives brick log lines log_after lines_after
Happens script (event.Serve brick) log lines log_after lines_after = Serves brick lines lines_after × (log_after ≡ log)
Happens script (event.Run graph task) log lines log_after lines_after = HubDoes (logged.Run graph task) log lines log_after lines_after
Happens script (event.Act action) log lines log_after lines_after = Acts action log lines log_after lines_after
Happens script (event.Arm brick p count action) log lines log_after lines_after = Arms brick p count action log lines log_after lines_after

-- the agenda with which an event begins, by the next output of its brick, and where these tasks are ready
abbrev pub with_next : Option (List ℕ) → AgendaState → AgendaState
with_next None agenda = agenda
with_next (Some output) agenda = with_output agenda (is_due_output output)

abbrev pub agenda_with : Event → LinesState → List (ℕ × ℕ) → AgendaState → AgendaState
agenda_with (event.Submit session) lines ready agenda = with_submission agenda session
agenda_with (event.Arrive brick) lines ready agenda = with_next (next_output lines brick) agenda
agenda_with (event.Serve brick) lines ready agenda = agenda
agenda_with (event.Run graph task) lines ready agenda = agenda
agenda_with (event.Act action) lines ready agenda = with_action agenda action (is_idle ready)
agenda_with (event.Arm brick p count action) lines ready agenda = with_arm agenda brick p count action

-- what an event makes of agenda and tasks: a service leaves both as they were; another one is closed with the agenda that follows from
-- its lines, and sends what is armed directly before its requests; of the tasks that are ready after it no more is said than that the
-- agenda goes by them
abbrev pub MovesAgenda : Event → Script → Log → LinesState → AgendaState → List (ℕ × ℕ) → Log → AgendaState → List (ℕ × ℕ) → Type 0
MovesAgenda (event.Serve brick) script log lines agenda ready log_after next ready_after = (next ≡ agenda) × (ready_after ≡ ready)
MovesAgenda other script log lines agenda ready log_after next ready_after = ClosesWith script log log_after ready_after (agenda_with other lines ready agenda) next

-- a service leaves them so also where it fails
abbrev pub KeepsAgenda : Event → AgendaState → List (ℕ × ℕ) → AgendaState → List (ℕ × ℕ) → Type 0
KeepsAgenda (event.Serve brick) agenda ready next ready_after = (next ≡ agenda) × (ready_after ≡ ready)
KeepsAgenda other agenda ready next ready_after = Unit {0}

-- which events happen: a session that may submit, and has a line left, submits; an output arrives where one is left, and a brick
-- serves where it has an input; a task that is ready is run; an action of a brick of the script is carried out, a heal where no internal call is
-- under way, and a switch not where one is; and an action is armed where it may be.
abbrev pub HappensWhere : Event → Script → AgendaState → List (ℕ × ℕ) → Log → LinesState → Bool → Type 0
HappensWhere (event.Submit session) script agenda ready log lines did = did ≡ may_submit agenda script log session
HappensWhere (event.Arrive brick) script agenda ready log lines did = did ≡ is_some (next_output lines brick)
HappensWhere (event.Serve brick) script agenda ready log lines did = did ≡ may_serve lines brick
HappensWhere (event.Run graph task) script agenda ready log lines did = did ≡ may_run ready graph task
HappensWhere (event.Act action) script agenda ready log lines did = ActsWhere action (length script.bricks) agenda.internal did
HappensWhere (event.Arm brick p count action) script agenda ready log lines did = did ≡ (is_armable brick action && is_of_brick (length script.bricks) action)

-- ---- runs

-- an event, and then what follows of what it leaves
pub record HappensThen (script : Script) (e : Event) (log : Log) (lines : LinesState) (follows : Log → LinesState → Type 0) : Type 0 where
  pub log_after : Log
  pub lines_after : LinesState
  pub happens : Happens script e log lines log_after lines_after
  pub then_follows : follows log_after lines_after

-- these events, one after another
abbrev pub HappenInTurn : Script → List Event → Log → LinesState → Log → LinesState → Type 0
HappenInTurn script [] log lines log_after lines_after = (log_after ≡ log) × (lines_after ≡ lines)
HappenInTurn script (e ∷ es) log lines log_after lines_after = HappensThen script e log lines (λ l ls. HappenInTurn script es l ls log_after lines_after)

-- some events lead from one to the other, one after another
pub record IsReached (script : Script) (log : Log) (lines : LinesState) (log_after : Log) (lines_after : LinesState) : Type 0 where
  pub events : List Event
  pub happen : HappenInTurn script events log lines log_after lines_after
