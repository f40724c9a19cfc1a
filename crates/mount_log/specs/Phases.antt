-- The course of a run, and its phases: each ends once it has nothing else left, and the last one with the log. Nothing else is
-- left where the calls of the phases so far are replied to, each heal and switch is answered, each request, Down and Up that
-- was sent has its output, and each wind that was opened has ended.
use Rattle.std.specs.Prelude.{◌≡◌, ℕ, ◌+◌, ◌-◌, ◌<◌, ◌≤◌, ◌==◌, not, Bool, true, false, List, [], ◌∷◌, Option, Some, length, map, slice_get, take, if◌then◌else◌}
use Rattle.fop_types.specs.declared.messages.Input.{Input}
use Rattle.fop_types.specs.declared.messages.Input.TheVariants as input
use Rattle.fop_types.specs.declared.messages.OutKind.{OutKind}
use Rattle.fop_types.specs.declared.messages.OutKind.TheVariants as out
use Rattle.fop_types.specs.declared.messages.Output.{Output}
use Rattle.script_lang.specs.Accepted.{calls_of}
use Rattle.script_lang.specs.declared.scripts.Action.{Action}
use Rattle.script_lang.specs.declared.scripts.Action.TheVariants as action
use Rattle.script_lang.specs.declared.scripts.Script.{Script}
use Rattle.wire_messages.specs.Messages.{input_in, output_in}
use Rattle.wire_messages.specs.declared.messages.Message.{Message}
use Rattle.wire_messages.specs.declared.messages.Message.TheVariants.{Whole, Wrong}
use Rattle.mount_log.specs.declared.logs.HubEvent.{HubEvent}
use Rattle.mount_log.specs.declared.logs.HubEvent.TheVariants as logged
use Rattle.mount_log.specs.declared.logs.Log.{Log}
use Rattle.mount_log.specs.declared.logs.SentLine.{SentLine}
use Rattle.mount_log.specs.declared.logs.WindLine.{WindLine}
use Rattle.mount_log.specs.declared.places.LineAt.{LineAt}
use Rattle.mount_log.specs.Submissions.{count_below, place_of_line, submits_of, submitted_at, replied_at}
use Rattle.mount_log.specs.Turns.{AreAlone}

-- where each phase ends, by its last event; and of each control, by its phase and place, the events in which it is carried out
-- and armed, and the place of the line that sends its input, where it was armed
pub record Course : Type 0 where
  pub ended_at : ℕ → ℕ
  pub carried_at : ℕ → ℕ → ℕ
  pub sent_at : ℕ → ℕ → Option ℕ
  pub armed_at : ℕ → ℕ → ℕ

-- the last event before a phase
abbrev pub begun_at : (ℕ → ℕ) → ℕ → ℕ
begun_at ended_at phase = if phase == 0 then 0 else ended_at (phase - 1)

-- ---- numbers of events

-- the events of heals and switches
abbrev pub is_internal : Action → Bool
is_internal action.Heal = true
is_internal (action.Switch volfile) = true
is_internal (action.Down brick serve) = false
is_internal (action.Up brick) = false
is_internal (action.Cut brick) = false
is_internal (action.Fault brick p number) = false

abbrev pub begins_internal : HubEvent → Bool
begins_internal (logged.Act a) = is_internal a
begins_internal (logged.Submit session line) = false
begins_internal (logged.Arrive brick bytes) = false
begins_internal (logged.Run graph task) = false
begins_internal (logged.Arm brick p count a) = false

abbrev pub internal_from : ℕ → List HubEvent → List ℕ
internal_from number [] = []
internal_from number (e ∷ es) = if begins_internal e then number ∷ internal_from (number + 1) es else internal_from (number + 1) es

-- the events that sent a request, a Down or an Up
abbrev pub has_output : Input → Bool
has_output (input.Request wind graph req) = true
has_output (input.Down serve) = true
has_output input.Up = true
has_output (input.Connect graph version) = false
has_output (input.Disconnect graph) = false
has_output (input.FaultAt p number) = false

abbrev pub is_owed : Message Input → Bool
is_owed (Whole x) = has_output x
is_owed (Wrong place) = false

abbrev pub owed_in : List SentLine → List ℕ
owed_in [] = []
owed_in (line ∷ lines) = if is_owed (input_in line.bytes) then line.event ∷ owed_in lines else owed_in lines

-- the events in which the output of one arrived
abbrev pub is_due : OutKind → Bool
is_due (out.Reply wind rep) = true
is_due out.Closed = true
is_due out.Opened = true
is_due (out.Connected graph version) = false
is_due (out.Malformed place) = false

abbrev pub says_due : Message Output → Bool
says_due (Whole x) = is_due x.kind
says_due (Wrong place) = false

abbrev pub brings_due : HubEvent → Bool
brings_due (logged.Arrive brick bytes) = says_due (output_in bytes)
brings_due (logged.Submit session line) = false
brings_due (logged.Run graph task) = false
brings_due (logged.Act a) = false
brings_due (logged.Arm brick p count a) = false

abbrev pub arrived_from : ℕ → List HubEvent → List ℕ
arrived_from number [] = []
arrived_from number (e ∷ es) = if brings_due e then number ∷ arrived_from (number + 1) es else arrived_from (number + 1) es

-- the events that opened winds, and that ended them
abbrev pub opened_in : List WindLine → List ℕ
opened_in [] = []
opened_in (line ∷ lines) = if line.opened then line.event ∷ opened_in lines else opened_in lines

abbrev pub ended_in : List WindLine → List ℕ
ended_in [] = []
ended_in (line ∷ lines) = if line.opened then ended_in lines else line.event ∷ ended_in lines

-- ---- phases

-- after so many events, the calls of the phases up to this one are replied to, and nothing is under way. A brick puts out one
-- output for each request, Down and Up, and each wind is opened and ended once.
pub record HasNothingElse (script : Script) (log : Log) (phase number : ℕ) : Type 0 where
  pub replied : length (calls_of (take (phase + 1) script.phases)) ≤ count_below (number + 1) (map (λ r. r.event) log.replies)
  pub internal : count_below (number + 1) (internal_from 1 log.events) ≡ count_below (number + 1) log.answered
  pub outputs : count_below (number + 1) (owed_in log.sent) ≡ count_below (number + 1) (arrived_from 1 log.events)
  pub winds : count_below (number + 1) (opened_in log.winds) ≡ count_below (number + 1) (ended_in log.winds)

-- behind the last phase, too, there is nothing else
pub record ArePhases (script : Script) (log : Log) (course : Course) : Type 0 where
  pub rises : (phase : ℕ) → course.ended_at phase ≤ course.ended_at (phase + 1)
  pub settled : (phase : ℕ) → phase ≤ length script.phases → HasNothingElse script log phase (course.ended_at phase)
  pub last : course.ended_at (length script.phases) ≡ length log.events

-- ---- calls

-- a session submits one call at a time, a call of a phase once the phases before have ended, and it is replied to before its own
-- phase ends
pub record AreCallsInPhases (script : Script) (log : Log) (course : Course) : Type 0 where
  pub alone : AreAlone log
  pub submitted : (k session line : ℕ) (at : LineAt) → slice_get log.events k ≡ Some (logged.Submit session line)
      → place_of_line script session (submits_of session (take k log.events)) ≡ Some at
      → (k < course.ended_at at.phase) × ((earlier : ℕ) → earlier < at.phase → course.ended_at earlier ≤ k)
  pub answered : (k session line number : ℕ) (at : LineAt) → slice_get log.events k ≡ Some (logged.Submit session line)
      → place_of_line script session (submits_of session (take k log.events)) ≡ Some at → submitted_at log number ≡ k + 1
      → replied_at log number ≤ course.ended_at at.phase
