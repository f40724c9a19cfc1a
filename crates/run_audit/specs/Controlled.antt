-- What an audit of controls finds: what sends an action's input, how a control was carried out, and of which control an
-- event is.
use Rattle.std.specs.Prelude.{◌≡◌, ℕ, ◌+◌, ◌<◌, ◌≤◌, ◌⊎◌, List, Option, None, Some, length, slice_get}
use Rattle.fop_types.specs.declared.messages.Input.{Input}
use Rattle.fop_types.specs.declared.messages.Proc.{Proc}
use Rattle.script_lang.specs.declared.scripts.Action.{Action}
use Rattle.script_lang.specs.declared.scripts.ControlLine.{ControlLine}
use Rattle.script_lang.specs.declared.scripts.Phase.{Phase}
use Rattle.script_lang.specs.declared.scripts.Script.{Script}
use Rattle.script_lang.specs.declared.scripts.When.TheVariants as moment
use Rattle.wire_xdr.specs.WireText.{input_text, IsInput}
use Rattle.wire_messages.specs.declared.messages.Message.{Message}
use Rattle.wire_messages.specs.declared.messages.Message.TheVariants.{Whole, Wrong}
use Rattle.mount_log.specs.Arms.{input_of}
use Rattle.mount_log.specs.Controls.{control_at, IsArmedIn, IsCarriedAt, IsControlBefore, AreAnswered}
use Rattle.mount_log.specs.Events.{IsEvent}
use Rattle.mount_log.specs.Procedures.{proc_in}
use Rattle.mount_log.specs.declared.logs.HubEvent.{HubEvent}
use Rattle.mount_log.specs.declared.logs.HubEvent.TheVariants as logged
use Rattle.mount_log.specs.declared.logs.Log.{Log}
use Rattle.mount_log.specs.declared.logs.SentLine.{SentLine}
use Rattle.log_audit.specs.Armed.{AreAllArmed, AreAllAmong}
use Rattle.run_audit.specs.InLine.{AreInLine}
use Rattle.run_audit.specs.Noted.{event_in, among, how_at, noted_for, course_of, begun, IsWithin}
use Rattle.run_audit.specs.Numbered.{AreNth}
use Rattle.run_audit.specs.SentFor.{AreSentFor}
use Rattle.run_audit.specs.Timed.{AreAllTimely}
use Rattle.log_audit.specs.declared.armed_lines.ArmedLines.{ArmedLines}
use Rattle.run_audit.specs.declared.carried.SentTables.{SentTables}
use Rattle.run_audit.specs.declared.run_notes.Carried.{Carried}
use Rattle.run_audit.specs.declared.run_notes.RunNotes.{RunNotes}

-- ---- what was sent

abbrev pub IsActionInput : Action → Input → Type 0
IsActionInput action sent = input_of action ≡ Some sent

abbrev pub Says : Action → Message Input → Type 0
Says action (Whole sent) = IsActionInput action sent
Says action (Wrong place) = ⊥

-- bytes are the input of an action, which has an encoding
pub record SendsAction (action : Action) (bytes : List ℕ) : Type 0 where
  pub sent : Input
  pub is_input : IsActionInput action sent
  pub legal : IsInput sent
  pub text : bytes ≡ input_text sent

-- the line sends the brick a request of this procedure in the event
pub record IsRequestTo (number brick : ℕ) (p : Proc) (line : SentLine) : Type 0 where
  pub same_brick : line.brick ≡ brick
  pub same_event : line.event ≡ number
  pub is_request : proc_in line.bytes ≡ Some p

pub record IsRequestAt (sent : List SentLine) (at number brick : ℕ) (p : Proc) : Type 0 where
  pub line : SentLine
  pub there : slice_get sent at ≡ Some line
  pub is : IsRequestTo number brick p line

-- the line at a place sends the brick the action's input in the event
pub record IsSentAt (sent : List SentLine) (at number brick : ℕ) (action : Action) : Type 0 where
  pub line : SentLine
  pub there : slice_get sent at ≡ Some line
  pub same_brick : line.brick ≡ brick
  pub same_event : line.event ≡ number
  pub sends : SendsAction action line.bytes

-- the armed lines that begin at a place stop at the request, which is this one of its procedure in its phase
pub record GoesBefore (sent : List SentLine) (tables : SentTables) (at number brick : ℕ) (p : Proc) (count : ℕ) : Type 0 where
  pub lines : ArmedLines
  pub there : slice_get tables.armed.items at ≡ Some lines
  pub later : at < lines.stop
  pub nth : slice_get tables.nth.items lines.stop ≡ Some count
  pub request : IsRequestAt sent lines.stop number brick p

-- the line at the place sends the action's input, and goes before the request
pub record IsSentFor (sent : List SentLine) (tables : SentTables) (at number brick : ℕ) (p : Proc) (count : ℕ) (action : Action) : Type 0 where
  pub before : GoesBefore sent tables at number brick p count
  pub own : IsSentAt sent at number brick action

-- ---- the controls of a phase

pub record IsSentControl (sent : List SentLine) (tables : SentTables) (at number : ℕ) (c : ControlLine) : Type 0 where
  pub brick : ℕ
  pub proc : Proc
  pub count : ℕ
  pub when_is : c.when ≡ moment.Before brick proc count
  pub line : IsSentFor sent tables at number brick proc count c.action

abbrev pub IsCarriedSo : Log → SentTables → ℕ → Option ℕ → ControlLine → Type 0
IsCarriedSo log tables number None c = IsEvent log number (logged.Act c.action)
IsCarriedSo log tables number (Some at) c = IsSentControl log.sent tables at number c

-- a control that goes before a request was armed in an event, which is noted for it
pub record IsNotedArm (notes : RunNotes) (phase at number : ℕ) : Type 0 where
  pub own : noted_for notes number None ≡ Some (record { phase = phase; at = at })

abbrev pub IsArmNoted : RunNotes → ℕ → ℕ → ℕ → ControlLine → Type 0
IsArmNoted notes phase at number c = (brick count : ℕ) (p : Proc) → c.when ≡ moment.Before brick p count → IsNotedArm notes phase at number

abbrev pub IsArmed : Log → ℕ → ControlLine → ℕ → ℕ → Type 0
IsArmed log number c since until = (brick count : ℕ) (p : Proc) → c.when ≡ moment.Before brick p count → IsArmedIn log number brick p count c.action since until

pub record IsControlCarried (log : Log) (tables : SentTables) (notes : RunNotes) (phase at : ℕ) (c : ControlLine) (how : Carried) : Type 0 where
  pub within : IsWithin notes.ended (length log.events) phase how.event
  pub own : noted_for notes how.event how.sent ≡ Some (record { phase = phase; at = at })
  pub armed : IsArmed log how.armed c (begun notes.ended (length log.events) phase) how.event
  pub arm : IsArmNoted notes phase at how.armed c
  pub carried : IsCarriedSo log tables how.event how.sent c

-- a control is noted for what carried it out, which is an event, if it follows a request, and, if it goes before one, for the event
-- that armed it
pub record IsNoted (notes : RunNotes) (phase at : ℕ) (c : ControlLine) (how : Carried) : Type 0 where
  pub own : noted_for notes how.event how.sent ≡ Some (record { phase = phase; at = at })
  pub arm : IsArmNoted notes phase at how.armed c
  pub by_event : (brick count : ℕ) (p : Proc) → c.when ≡ moment.After brick p count → how.sent ≡ None

-- the controls of a script are noted
abbrev pub AreNoted : Script → RunNotes → Type 0
AreNoted script notes = (phase at : ℕ) (c : ControlLine) (how : Carried) → control_at script phase at ≡ Some c → how_at notes.carried phase at ≡ Some how → IsNoted notes phase at c how

abbrev pub IsFound : Log → SentTables → RunNotes → ℕ → ℕ → ControlLine → Option Carried → Type 0
IsFound log tables notes phase at c None = ⊥
IsFound log tables notes phase at c (Some how) = IsControlCarried log tables notes phase at c how

abbrev pub AreControlsCarried : Log → SentTables → RunNotes → ℕ → List ControlLine → List Carried → Type 0
AreControlsCarried log tables notes phase controls carried = (at : ℕ) (c : ControlLine) → slice_get controls at ≡ Some c → IsFound log tables notes phase at c (slice_get carried at)

-- one control more, and the last event of those without a condition
pub record Passes (c : ControlLine) (number last next : ℕ) : Type 0 where
  pub kept : last ≤ next
  pub rises : c.when ≡ moment.Now → last < number
  pub own : c.when ≡ moment.Now → number ≤ next
  pub is : ((c.when ≡ moment.Now) × (next ≡ number)) ⊎ (next ≡ last)

-- each control was carried out in an event, and these are numbered from 1
abbrev pub AreFromOne : List ControlLine → List Carried → Type 0
AreFromOne controls carried = (i : ℕ) (c : ControlLine) → slice_get controls i ≡ Some c → 1 ≤ event_in (slice_get carried i)

abbrev pub AreInTurn : List ControlLine → List Carried → Type 0
AreInTurn controls carried =
    (i j : ℕ) (a b : ControlLine) → slice_get controls i ≡ Some a → slice_get controls j ≡ Some b → a.when ≡ moment.Now → b.when ≡ moment.Now → i < j
    → event_in (slice_get carried i) < event_in (slice_get carried j)

pub record IsPhaseCarried (log : Log) (tables : SentTables) (notes : RunNotes) (phase : ℕ) (controls : List ControlLine) : Type 0 where
  pub each : AreControlsCarried log tables notes phase controls (among (slice_get notes.carried phase))
  pub turns : AreInTurn controls (among (slice_get notes.carried phase))
  pub line : AreInLine controls (among (slice_get notes.carried phase))

abbrev pub ArePhasesCarried : Script → Log → SentTables → RunNotes → Type 0
ArePhasesCarried script log tables notes = (k : ℕ) (phase : Phase) → slice_get script.phases k ≡ Some phase → IsPhaseCarried log tables notes k phase.controls

-- ---- events

abbrev pub IsOfControl : Script → RunNotes → ℕ → ℕ → HubEvent → Type 0
IsOfControl script notes last number (logged.Act a) = IsCarriedAt script (course_of notes last) number a
IsOfControl script notes last number (logged.Arm brick p count a) = IsControlBefore script (course_of notes last) number brick p count a
IsOfControl script notes last number (logged.Submit session line) = Unit {0}
IsOfControl script notes last number (logged.Arrive brick bytes) = Unit {0}
IsOfControl script notes last number (logged.Run graph task) = Unit {0}

abbrev pub AreOfControls : Script → RunNotes → Log → Type 0
AreOfControls script notes log = (k : ℕ) (e : HubEvent) → slice_get log.events k ≡ Some e → IsOfControl script notes (length log.events) (k + 1) e

-- the tables of what was sent: the armed lines of each line, and which one each request is
pub record AreTables (ended : List ℕ) (log : Log) (tables : SentTables) : Type 0 where
  pub armed : AreAllArmed log.sent tables.armed.items
  pub nth : AreNth ended (length log.events) log.sent tables.nth.items
  pub many : length tables.nth.items ≡ length log.sent

pub record AreCarriedOut (script : Script) (log : Log) (notes : RunNotes) : Type 0 where
  pub acts : AreOfControls script notes log
  pub tables : SentTables
  pub are : AreTables notes.ended log tables
  pub phases : ArePhasesCarried script log tables notes
  pub timely : AreAllTimely script log notes
  pub sent : AreSentFor script log (course_of notes (length log.events))
  pub answered : AreAnswered log

-- the tables of what was sent, with each line that can be armed among its armed lines
pub record AreWholeTables (ended : List ℕ) (log : Log) (tables : SentTables) : Type 0 where
  pub are : AreTables ended log tables
  pub among : AreAllAmong log.sent tables.armed.items
