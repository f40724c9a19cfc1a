-- The controls of a phase: each is carried out once, in its moment, as an event of its own, or, where it was armed, directly
-- before its request; each control before a request is armed once; and there is no other action, and no other Down or FaultAt.
use Rattle.std.specs.Prelude.{◌≡◌, ℕ, ◌+◌, ◌-◌, ◌<◌, ◌≤◌, ◌⊎◌, List, Option, Some, None, length, slice_get}
use Rattle.fop_types.specs.declared.messages.Input.{Input}
use Rattle.fop_types.specs.declared.messages.Proc.{Proc}
use Rattle.script_lang.specs.declared.scripts.Action.{Action}
use Rattle.script_lang.specs.declared.scripts.ControlLine.{ControlLine}
use Rattle.script_lang.specs.declared.scripts.Phase.{Phase}
use Rattle.script_lang.specs.declared.scripts.Script.{Script}
use Rattle.script_lang.specs.declared.scripts.When.{When}
use Rattle.script_lang.specs.declared.scripts.When.TheVariants as moment
use Rattle.wire_messages.specs.Messages.{input_in}
use Rattle.wire_messages.specs.declared.messages.Message.TheVariants.{Whole}
use Rattle.mount_log.specs.declared.logs.HubEvent.TheVariants as logged
use Rattle.mount_log.specs.declared.logs.Log.{Log}
use Rattle.mount_log.specs.declared.logs.SentLine.{SentLine}
use Rattle.mount_log.specs.Arms.{action_for, IsSentBefore, IsNth}
use Rattle.mount_log.specs.Events.{IsEvent}
use Rattle.mount_log.specs.Phases.{Course, begun_at, internal_from, HasNothingElse}
use Rattle.mount_log.specs.Procedures.{proc_in}
use Rattle.mount_log.specs.Submissions.{count_below}

-- the control at a place of a phase
abbrev pub control_in : Option Phase → ℕ → Option ControlLine
control_in None at = None
control_in (Some phase) at = slice_get phase.controls at

abbrev pub control_at : Script → ℕ → ℕ → Option ControlLine
control_at script phase at = control_in (slice_get script.phases phase) at

-- ---- the request that a control names

abbrev pub NamesRequest : When → ℕ → Proc → ℕ → Type 0
NamesRequest when brick p count = (when ≡ moment.Before brick p count) ⊎ (when ≡ moment.After brick p count)

-- the line at a place is, behind an event, the request of this number to the brick among those of the procedure
pub record IsRequestOf (log : Log) (since at brick : ℕ) (p : Proc) (count : ℕ) (line : SentLine) : Type 0 where
  pub there : slice_get log.sent at ≡ Some line
  pub same_brick : line.brick ≡ brick
  pub is_request : proc_in line.bytes ≡ Some p
  pub behind : since < line.event
  pub nth : IsNth log since at count

-- it was not sent before an event
abbrev pub HasNotCome : Log → ℕ → ℕ → ℕ → Proc → ℕ → Type 0
HasNotCome log since number brick p count = (at : ℕ) (line : SentLine) → IsRequestOf log since at brick p count line → number ≤ line.event

-- a control that follows a request is carried out in the event
pub record IsFollowing (script : Script) (course : Course) (phase number : ℕ) : Type 0 where
  pub at : ℕ
  pub control : ControlLine
  pub brick : ℕ
  pub proc : Proc
  pub count : ℕ
  pub there : control_at script phase at ≡ Some control
  pub when_is : control.when ≡ moment.After brick proc count
  pub number_is : course.carried_at phase at ≡ number

-- it was sent before an event, and between the two there are but controls that follow requests
pub record HasCome (script : Script) (log : Log) (course : Course) (phase number brick : ℕ) (p : Proc) (count : ℕ) : Type 0 where
  pub place : ℕ
  pub line : SentLine
  pub request : IsRequestOf log (begun_at course.ended_at phase) place brick p count line
  pub earlier : line.event < number
  pub next : (m : ℕ) → line.event < m → m < number → IsFollowing script course phase m

-- ---- the moment of a control

-- Before an event the phase has nothing else left, and of its controls those earlier in the script and those without a
-- condition were carried out.
pub record IsFirstLeft (script : Script) (log : Log) (course : Course) (phase at number : ℕ) : Type 0 where
  pub nothing_else : HasNothingElse script log phase (number - 1)
  pub first : (j : ℕ) (c : ControlLine) → control_at script phase j ≡ Some c → (j < at) ⊎ (c.when ≡ moment.Now) → course.carried_at phase j < number

-- An event is the moment of a control's own event: of one without a condition, where each heal and switch before was answered
-- before; of one after a request, as the request has come; of one whose request has not come, where nothing else is left.
pub data IsTimely (script : Script) (log : Log) (course : Course) (phase at number : ℕ) (c : ControlLine) : Type 0 where
  Now : c.when ≡ moment.Now → count_below number (internal_from 1 log.events) ≡ count_below number log.answered → IsTimely script log course phase at number c
  Come : (brick count : ℕ) (p : Proc) → c.when ≡ moment.After brick p count → HasCome script log course phase number brick p count → IsTimely script log course phase at number c
  Left : (brick count : ℕ) (p : Proc) → NamesRequest c.when brick p count → HasNotCome log (begun_at course.ended_at phase) number brick p count → IsFirstLeft script log course phase at number
      → IsTimely script log course phase at number c

-- how a control is carried out in an event: by the event itself, or, where it was armed, by the line at a place, before the
-- request of its number in the phase
pub data IsCarriedIn (script : Script) (log : Log) (course : Course) (phase at number : ℕ) (place : Option ℕ) (c : ControlLine) : Type 0 where
  ByEvent : place ≡ None → IsEvent log number (logged.Act c.action) → IsTimely script log course phase at number c → IsCarriedIn script log course phase at number place c
  ByRequest : (brick : ℕ) (p : Proc) (count : ℕ) → c.when ≡ moment.Before brick p count → (sent : IsSentBefore log number brick p c.action)
      → place ≡ Some sent.place → IsNth log (begun_at course.ended_at phase) sent.request_at count → IsCarriedIn script log course phase at number place c

-- heals and switches are answered in their order, each in its event or later, and before the next
pub record AreAnswered (log : Log) : Type 0 where
  pub many : length log.answered ≡ length (internal_from 1 log.events)
  pub later : (i act answer : ℕ) → slice_get (internal_from 1 log.events) i ≡ Some act → slice_get log.answered i ≡ Some answer → act ≤ answer
  pub before_next : (i answer next : ℕ) → slice_get log.answered i ≡ Some answer → slice_get (internal_from 1 log.events) (i + 1) ≡ Some next → answer < next

-- the action of an event is that of a control which is carried out by it
pub record IsCarriedAt (script : Script) (course : Course) (number : ℕ) (a : Action) : Type 0 where
  pub phase : ℕ
  pub at : ℕ
  pub control : ControlLine
  pub there : control_at script phase at ≡ Some control
  pub number_is : course.carried_at phase at ≡ number
  pub by_event : course.sent_at phase at ≡ None
  pub action_is : control.action ≡ a

-- what a line sends is an action's input: it is the first line of the action's event, or the line of a control that was armed
pub data IsSentFor (script : Script) (log : Log) (course : Course) (k : ℕ) (line : SentLine) (a : Action) : Type 0 where
  ByAction : IsEvent log line.event (logged.Act a) → ((before : SentLine) → 1 ≤ k → slice_get log.sent (k - 1) ≡ Some before → before.event < line.event) → IsSentFor script log course k line a
  ByArmed : (phase at : ℕ) (control : ControlLine) → control_at script phase at ≡ Some control → course.sent_at phase at ≡ Some k → IsSentFor script log course k line a

pub record AreCarried (script : Script) (log : Log) (course : Course) : Type 0 where
  pub carried : (phase at : ℕ) (c : ControlLine) → control_at script phase at ≡ Some c → IsCarriedIn script log course phase at (course.carried_at phase at) (course.sent_at phase at) c
  pub behind : (phase at : ℕ) (c : ControlLine) → control_at script phase at ≡ Some c → begun_at course.ended_at phase < course.carried_at phase at
  pub within : (phase at : ℕ) (c : ControlLine) → control_at script phase at ≡ Some c → course.carried_at phase at ≤ course.ended_at phase
  -- no two controls are carried out by one event or one line
  pub once : (p i q j : ℕ) (a b : ControlLine) → control_at script p i ≡ Some a → control_at script q j ≡ Some b → course.carried_at p i ≡ course.carried_at q j → course.sent_at p i ≡ course.sent_at q j
      → (p ≡ q) × (i ≡ j)
  -- controls without a condition are carried out in their order
  pub in_order : (phase i j : ℕ) (a b : ControlLine) → control_at script phase i ≡ Some a → control_at script phase j ≡ Some b
      → a.when ≡ moment.Now → b.when ≡ moment.Now → i < j → course.carried_at phase i < course.carried_at phase j
  -- controls before one request are sent in their order
  pub in_line : (phase i j m n brick count : ℕ) (p : Proc) (a b : ControlLine) → control_at script phase i ≡ Some a → control_at script phase j ≡ Some b
      → a.when ≡ moment.Before brick p count → b.when ≡ moment.Before brick p count → course.sent_at phase i ≡ Some m → course.sent_at phase j ≡ Some n → i < j → m < n
  pub answered : AreAnswered log
  -- there is no other action, and no other Down or FaultAt
  pub no_other : (number : ℕ) (a : Action) → IsEvent log number (logged.Act a) → IsCarriedAt script course number a
  pub sent_for : (k : ℕ) (line : SentLine) (sent : Input) (a : Action) → slice_get log.sent k ≡ Some line → input_in line.bytes ≡ Whole sent → action_for line.brick sent ≡ Some a
      → IsSentFor script log course k line a

-- ---- arms

-- a control before a request is armed in an event
pub record IsArmedIn (log : Log) (number brick : ℕ) (p : Proc) (count : ℕ) (a : Action) (since until : ℕ) : Type 0 where
  pub event : IsEvent log number (logged.Arm brick p count a)
  pub behind : since < number
  pub before : number < until

-- what an event arms is a control of the script that is armed there, for its request
pub record IsControlBefore (script : Script) (course : Course) (number brick : ℕ) (p : Proc) (count : ℕ) (a : Action) : Type 0 where
  pub phase : ℕ
  pub at : ℕ
  pub control : ControlLine
  pub there : control_at script phase at ≡ Some control
  pub number_is : course.armed_at phase at ≡ number
  pub when_is : control.when ≡ moment.Before brick p count
  pub action_is : control.action ≡ a

-- each control before a request is armed within its phase, before it is carried out, by an event of its own, and no other is
pub record AreArmed (script : Script) (log : Log) (course : Course) : Type 0 where
  pub arms : (phase at brick count : ℕ) (p : Proc) (c : ControlLine) → control_at script phase at ≡ Some c → c.when ≡ moment.Before brick p count
      → IsArmedIn log (course.armed_at phase at) brick p count c.action (begun_at course.ended_at phase) (course.carried_at phase at)
  pub once : (p i q j brick count other_brick other_count : ℕ) (proc other_proc : Proc) (a b : ControlLine) → control_at script p i ≡ Some a → control_at script q j ≡ Some b
      → a.when ≡ moment.Before brick proc count → b.when ≡ moment.Before other_brick other_proc other_count → course.armed_at p i ≡ course.armed_at q j → (p ≡ q) × (i ≡ j)
  pub no_other : (number brick count : ℕ) (p : Proc) (a : Action) → IsEvent log number (logged.Arm brick p count a) → IsControlBefore script course number brick p count a
