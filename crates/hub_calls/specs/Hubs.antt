-- What is seen of a hub: the script that it runs, with its plans, the log of the whole events, the lines so far of an event under way,
-- the agenda and the ready tasks, which decide what is due, the live graphs, each with its volfile, whether a failure has spent the
-- graphs, and why the hub stopped; what a stop does to later calls; which actions may be carried out; which event a call adds to the log,
-- and what the event makes of the agenda. Ours.
use Rattle.std.specs.Prelude.{◌≡◌, ℕ, ◌+◌, ◌==◌, nat_lt, Bool, true, false, ◌&&◌, not, List, [], ◌∷◌, length, drop, slice_get, Option, None, Some, Result, Err}
use Rattle.fop_types.specs.declared.messages.Input.{Input}
use Rattle.graph_build.specs.declared.plans.Plan.{Plan}
use Rattle.script_lang.specs.declared.scripts.CallLine.{CallLine}
use Rattle.script_lang.specs.declared.scripts.Script.{Script}
use Rattle.xlator_law.specs.declared.winds.Stop.{Stop}
use Rattle.xlator_law.specs.declared.winds.Stop.TheVariants as stopped
use Rattle.mount_log.specs.declared.logs.HubEvent.{HubEvent}
use Rattle.mount_log.specs.declared.logs.HubEvent.TheVariants as logged
use Rattle.mount_log.specs.declared.logs.Log.{Log}
use Rattle.mount_log.specs.Logs.{sends, with_lines, with_cut}
use Rattle.mount_log.specs.Phases.{says_due}
use Rattle.mount_log.specs.Submissions.{place_of_line, session_line, submits_of}
use Rattle.mount_log.specs.declared.logs.ReplyLine.{ReplyLine}
use Rattle.mount_log.specs.declared.logs.SentLine.{SentLine}
use Rattle.mount_log.specs.declared.places.LineAt.{LineAt}
use Rattle.wire_messages.specs.Messages.{output_in}
use Rattle.wire_xdr.specs.WireText.{input_text}
use Rattle.script_lang.specs.StatementText.{is_great_action}
use Rattle.script_lang.specs.declared.scripts.Action.{Action}
use Rattle.script_lang.specs.declared.scripts.Action.TheVariants as action
use Rattle.hub_tables.specs.Agendas.{AgendaState, new_agenda, with_output, with_sends, with_phase, outgoing, moved_on, next_agenda}
use Rattle.hub_tables.specs.Arming.{may_fail}
use Rattle.hub_tables.specs.PhaseControls.{ControlsState}
use Rattle.hub_tables.specs.declared.actions.Turned.{Turned}
use Rattle.hub_tables.specs.declared.actions.Turned.TheVariants as turn
use Rattle.hub_calls.specs.Dues.{is_idle}
use Rattle.hub_calls.specs.EventNumbers.{AreOfEvent}

pub record HubState : Type 0 where
  pub script : Script
  pub plans : List Plan
  pub log : Log
  pub lines : Log
  pub agenda : AgendaState
  pub graphs : List (ℕ × ℕ)
  pub tasks : List (ℕ × ℕ)
  pub spent : Bool
  pub stop : Option Stop

-- a call of what had stopped before it answers the same stop, and changes nothing; so a call that succeeds found no stop
abbrev pub StaysStopped : {S R : Type 0} → Option Stop → S → S → Result R Stop → Type 0
StaysStopped stop old new result = (s : Stop) → stop ≡ Some s → (result ≡ Err s) × (new ≡ old)

-- whether an action is of one of so many bricks, and, if it is a fault, of a request that may fail
abbrev pub is_of_brick : ℕ → Action → Bool
is_of_brick many (action.Down brick serve) = nat_lt brick many
is_of_brick many (action.Up brick) = nat_lt brick many
is_of_brick many (action.Cut brick) = nat_lt brick many
is_of_brick many (action.Fault brick p number) = nat_lt brick many && may_fail p number
is_of_brick many action.Heal = false
is_of_brick many (action.Switch volfile) = false

-- whether an action is carried out: one that is no heal and no switch where it is of one of so many bricks; a heal where no internal
-- call is under way, and a switch not where one is
abbrev pub ActsWhere : Action → ℕ → Bool → Bool → Type 0
ActsWhere a many internal did =
    (is_great_action a ≡ false → did ≡ is_of_brick many a) × ((a ≡ action.Heal → did ≡ not internal) × (is_great_action a ≡ true → did ≡ true → internal ≡ false))

-- ---- what a call adds to the log

-- the log with one event more, and with its lines, which have its number
pub record AddsEvent (old new : Log) (e : HubEvent) : Type 0 where
  pub lines : Log
  pub event : lines.events ≡ e ∷ []
  pub numbered : AreOfEvent (length new.events) lines
  pub added : new ≡ with_lines old lines

-- a session submits the first of its lines in the script that it had not submitted
pub record AddsSubmission (script : Script) (old new : Log) (session : ℕ) : Type 0 where
  pub line : CallLine
  pub next : session_line script session (submits_of session old.events) ≡ Some line
  pub event : AddsEvent old new (logged.Submit session line.line)

-- an action that sends its brick an input adds this to the lines, with this number, and nothing else
abbrev pub AddsInput : ℕ → Option (ℕ × Input) → Log → Log → Type 0
AddsInput number None old new = Unit {0}
AddsInput number (Some control) old new = new ≡ sends old number control.0 (input_text control.1)

-- ---- what an event makes of the agenda

-- the replies and the inputs that an event has added, and whether it has answered the internal call
abbrev pub new_replies : Log → Log → List ReplyLine
new_replies old new = drop (length old.replies) new.replies

abbrev pub new_sent : Log → Log → List SentLine
new_sent old new = drop (length old.sent) new.sent

abbrev pub is_answered_in : Log → Log → Bool
is_answered_in old new = not (length (drop (length old.answered) new.answered) == 0)

-- the next line of each session, after these events
abbrev pub next_lines : Script → List HubEvent → ℕ → Option LineAt
next_lines script events session = place_of_line script session (submits_of session events)

-- what an event makes of the agenda that it has begun with, where these tasks are ready after it: its replies, what it has sent, and
-- whether it has answered the internal call; and the phases that have nothing left end
unfoldable pub agenda_after : Script → Log → Log → List (ℕ × ℕ) → AgendaState → AgendaState
agenda_after script old new tasks agenda = next_agenda (next_lines script new.events) script.phases (is_idle tasks) (new_replies old new) (new_sent old new) (is_answered_in old new) agenda

-- what an event sends is what the graphs and the hub have sent in it, in order, with each request directly behind what is armed for
-- it; these are the controls with which the event has begun
pub record GoesOut (controls : ControlsState) (sent : List SentLine) : Type 0 where
  pub inputs : List SentLine
  pub are_sent : sent ≡ outgoing controls inputs

-- an event that has begun with one agenda is closed with the other, where these tasks are ready after it
pub record ClosesWith (script : Script) (old new : Log) (tasks : List (ℕ × ℕ)) (begun after : AgendaState) : Type 0 where
  pub agenda : after ≡ agenda_after script old new tasks begun
  pub out : GoesOut begun.controls (new_sent old new)

-- the agenda of a hub in which nothing has happened: the first phase that has something left has begun
unfoldable pub agenda_before : Script → Log → List (ℕ × ℕ) → AgendaState
agenda_before script log tasks = moved_on (next_lines script []) script.phases (is_idle tasks) (length script.phases) (with_phase (next_lines script []) script.phases (with_sends new_agenda log.sent))

-- whether an output is owed, by its bytes
abbrev pub is_due_output : List ℕ → Bool
is_due_output bytes = says_due (output_in bytes)

-- the agenda with which a turn begins that takes the first of these outputs
abbrev pub agenda_at : List (ℕ × List ℕ) → AgendaState → AgendaState
agenda_at [] agenda = agenda
agenda_at (output ∷ outputs) agenda = with_output agenda (is_due_output output.1)

-- ---- turns

-- the first of the ready tasks is run
pub record AddsRun (tasks : List (ℕ × ℕ)) (old new : Log) : Type 0 where
  pub graph : ℕ
  pub task : ℕ
  pub first : slice_get tasks 0 ≡ Some (graph, task)
  pub event : AddsEvent old new (logged.Run graph task)

-- a turn takes the first of the outputs that have arrived, each with its brick; where there is none, the first of the ready tasks
abbrev pub TakesFirst : List (ℕ × ℕ) → List (ℕ × List ℕ) → List (ℕ × List ℕ) → Log → Log → Type 0
TakesFirst tasks [] after old new = (after ≡ []) × AddsRun tasks old new
TakesFirst tasks (output ∷ outputs) after old new = (after ≡ outputs) × AddsEvent old new (logged.Arrive output.0 output.1)

-- a turn that was quiet has found no output and no ready task, and counts none, and changes nothing
abbrev pub IsTurn : Turned → List (ℕ × List ℕ) → List (ℕ × List ℕ) → HubState → HubState → Type 0
IsTurn turn.Did before after old new = TakesFirst old.tasks before after old.log new.log × ClosesWith new.script old.log new.log new.tasks (agenda_at before old.agenda) new.agenda
IsTurn (turn.Quiet ready arrived) before after old new = (ready ≡ 0) × ((arrived ≡ 0) × ((before ≡ []) × ((after ≡ []) × ((slice_get old.tasks 0 ≡ None) × (new ≡ old)))))

-- ---- the log after a call that stopped

-- the log with the winds more of an event that was cut, if it has any, with its number
pub record HasCut (old new : Log) : Type 0 where
  pub lines : Log
  pub numbered : AreOfEvent (length old.events + 1) lines
  pub cut : new ≡ with_cut old lines

-- the log is as it was, but for the winds of an event that was cut as none was left
abbrev pub IsAfterStop : Stop → Log → Log → Type 0
IsAfterStop stopped.Mem old new = new ≡ old
IsAfterStop stopped.Winds old new = HasCut old new
