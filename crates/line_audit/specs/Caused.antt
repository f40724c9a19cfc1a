-- What a line that was sent has as its cause, by what its bytes are.
use Rattle.std.specs.Prelude.{◌≡◌, ℕ, ◌+◌, ◌<◌, true, List, Some, is_some, slice_get}
use Rattle.fop_types.specs.declared.messages.Input.{Input}
use Rattle.fop_types.specs.declared.messages.Input.TheVariants as input
use Rattle.script_lang.specs.declared.scripts.Action.{Action}
use Rattle.script_lang.specs.declared.scripts.Action.TheVariants as action
use Rattle.wire_xdr.specs.WireText.{input_text}
use Rattle.wire_messages.specs.Messages.{input_in}
use Rattle.wire_messages.specs.declared.messages.Message.{Message}
use Rattle.wire_messages.specs.declared.messages.Message.TheVariants.{Whole, Wrong}
use Rattle.mount_log.specs.Connections.{was_sent}
use Rattle.mount_log.specs.Connects.{IsForDown}
use Rattle.mount_log.specs.Follows.{IsEvent}
use Rattle.mount_log.specs.Procedures.{proc_in}
use Rattle.mount_log.specs.declared.logs.HubEvent.{HubEvent}
use Rattle.mount_log.specs.declared.logs.HubEvent.TheVariants as logged
use Rattle.mount_log.specs.declared.logs.Log.{Log}
use Rattle.mount_log.specs.declared.logs.SentLine.{SentLine}
use Rattle.log_audit.specs.Armed.{IsArmedFor}

-- the line at this later place is a request to the same brick in the same event
pub record IsBeforeRequest (sent : List SentLine) (k next : ℕ) (line : SentLine) : Type 0 where
  pub later : k < next
  pub request : SentLine
  pub there : slice_get sent next ≡ Some request
  pub same_brick : request.brick ≡ line.brick
  pub same_event : request.event ≡ line.event
  pub is_request : is_some (proc_in request.bytes) ≡ true

-- what an input was sent for
abbrev pub IsInputCaused : Log → SentLine → Input → Type 0
IsInputCaused log line input.Up = IsEvent log line.event (logged.Act (action.Up line.brick))
IsInputCaused log line (input.Connect graph version) = Unit {0}
IsInputCaused log line (input.Down serve) = IsForDown log line serve
IsInputCaused log line (input.Request wind graph req) = Unit {0}
IsInputCaused log line (input.Disconnect graph) = Unit {0}
IsInputCaused log line (input.FaultAt p number) = Unit {0}

abbrev pub IsCaused : Log → SentLine → Message Input → Type 0
IsCaused log line (Whole x) = IsInputCaused log line x
IsCaused log line (Wrong place) = Unit {0}

pub record AreCaused (log : Log) : Type 0 where
  pub each : (k : ℕ) (line : SentLine) → slice_get log.sent k ≡ Some line → IsCaused log line (input_in line.bytes)

-- ---- at their own places

-- The line at a place is the first of lines that send its brick, in its event, what is read as inputs that can be armed, up to a
-- request to the brick in the event.
pub record IsArmedAt (sent : List SentLine) (k : ℕ) (line : SentLine) : Type 0 where
  pub stop : ℕ
  pub armed : (j : ℕ) (other : SentLine) → k < j → j < stop → slice_get sent j ≡ Some other → IsArmedFor line.event line.brick other
  pub request : IsBeforeRequest sent k stop line

-- a Down was sent in the event of its action, or is armed at its place
pub data IsDownAt (log : Log) (k : ℕ) (line : SentLine) (serve : ℕ) : Type 0 where
  ByAct : IsEvent log line.event (logged.Act (action.Down line.brick serve)) → IsDownAt log k line serve
  ByArms : IsArmedAt log.sent k line → IsDownAt log k line serve

-- what an input was sent for, at its place
abbrev pub IsInputCausedAt : Log → ℕ → SentLine → Input → Type 0
IsInputCausedAt log k line input.Up = IsInputCaused log line input.Up
IsInputCausedAt log k line (input.Connect graph version) = Unit {0}
IsInputCausedAt log k line (input.Down serve) = IsDownAt log k line serve
IsInputCausedAt log k line (input.Request wind graph req) = Unit {0}
IsInputCausedAt log k line (input.Disconnect graph) = Unit {0}
IsInputCausedAt log k line (input.FaultAt p number) = Unit {0}

abbrev pub IsCausedAt : Log → ℕ → SentLine → Message Input → Type 0
IsCausedAt log k line (Whole x) = IsInputCausedAt log k line x
IsCausedAt log k line (Wrong place) = Unit {0}

-- Each Down and Up that was sent has its cause at its own place. `IsForDown` allows the request behind another line with the same
-- content.
pub record AreCausedAt (log : Log) : Type 0 where
  pub each : (k : ℕ) (line : SentLine) → slice_get log.sent k ≡ Some line → IsCausedAt log k line (input_in line.bytes)

-- ---- what is sent for an action

-- the input is the one that the action sends
abbrev pub IsFor : Action → Input → Type 0
IsFor (action.Down brick serve) x = x ≡ input.Down serve
IsFor (action.Up brick) x = x ≡ input.Up
IsFor (action.Fault brick p number) x = x ≡ input.FaultAt p number
IsFor (action.Cut brick) x = ⊥
IsFor action.Heal x = ⊥
IsFor (action.Switch volfile) x = ⊥

pub record IsTextFor (a : Action) (bytes : List ℕ) : Type 0 where
  pub sent : Input
  pub is_for : IsFor a sent
  pub text : bytes ≡ input_text sent

-- what a line is read as is the input of the action
abbrev pub SaysFor : Action → Message Input → Type 0
SaysFor a (Whole x) = IsFor a x
SaysFor a (Wrong place) = ⊥

-- the line sends the brick, in this event, what is read as the input of the action
pub record IsLineFor (number brick : ℕ) (a : Action) (line : SentLine) : Type 0 where
  pub event : line.event ≡ number
  pub brick_is : line.brick ≡ brick
  pub says : SaysFor a (input_in line.bytes)

pub record IsLineAt (sent : List SentLine) (at number brick : ℕ) (a : Action) : Type 0 where
  pub line : SentLine
  pub there : slice_get sent at ≡ Some line
  pub is : IsLineFor number brick a line

-- the line sent the brick, in this event, the input of the action
pub record IsSentFor (number brick : ℕ) (a : Action) (line : SentLine) : Type 0 where
  pub event : line.event ≡ number
  pub brick_is : line.brick ≡ brick
  pub bytes : IsTextFor a line.bytes

abbrev pub WasSentFor : Log → ℕ → ℕ → Action → Type 0
WasSentFor log number brick (action.Down b serve) = was_sent log number brick (input.Down serve) ≡ true
WasSentFor log number brick (action.Up b) = was_sent log number brick input.Up ≡ true
WasSentFor log number brick (action.Fault b p n) = was_sent log number brick (input.FaultAt p n) ≡ true
WasSentFor log number brick (action.Cut b) = Unit {0}
WasSentFor log number brick action.Heal = Unit {0}
WasSentFor log number brick (action.Switch volfile) = Unit {0}

abbrev pub IsActionCarried : Log → ℕ → Action → Type 0
IsActionCarried log number (action.Down brick serve) = was_sent log number brick (input.Down serve) ≡ true
IsActionCarried log number (action.Up brick) = was_sent log number brick input.Up ≡ true
IsActionCarried log number (action.Fault brick p n) = was_sent log number brick (input.FaultAt p n) ≡ true
IsActionCarried log number (action.Cut brick) = Unit {0}
IsActionCarried log number action.Heal = Unit {0}
IsActionCarried log number (action.Switch volfile) = Unit {0}

abbrev pub IsEventCarried : Log → ℕ → HubEvent → Type 0
IsEventCarried log number (logged.Act a) = IsActionCarried log number a
IsEventCarried log number (logged.Submit session line) = Unit {0}
IsEventCarried log number (logged.Arrive from bytes) = Unit {0}
IsEventCarried log number (logged.Run graph task) = Unit {0}
IsEventCarried log number (logged.Arm at p count a) = Unit {0}

pub record AreCarried (log : Log) : Type 0 where
  pub each : (k : ℕ) (e : HubEvent) → slice_get log.events k ≡ Some e → IsEventCarried log (k + 1) e

-- ---- and is sent first

-- each line before this place was sent before the event
abbrev pub AreBefore : List SentLine → ℕ → ℕ → Type 0
AreBefore sent at number = (k : ℕ) (line : SentLine) → k < at → slice_get sent k ≡ Some line → line.event < number

-- the first line of the event sends the brick the input of the action
pub record IsSentFirst (log : Log) (number brick : ℕ) (a : Action) : Type 0 where
  pub place : ℕ
  pub first : AreBefore log.sent place number
  pub sends : IsLineAt log.sent place number brick a

abbrev pub IsActionAt : List SentLine → ℕ → ℕ → Action → Type 0
IsActionAt sent at number (action.Down brick serve) = IsLineAt sent at number brick (action.Down brick serve)
IsActionAt sent at number (action.Up brick) = IsLineAt sent at number brick (action.Up brick)
IsActionAt sent at number (action.Fault brick p n) = IsLineAt sent at number brick (action.Fault brick p n)
IsActionAt sent at number (action.Cut brick) = Unit {0}
IsActionAt sent at number action.Heal = Unit {0}
IsActionAt sent at number (action.Switch volfile) = Unit {0}

abbrev pub IsActionFirst : Log → ℕ → Action → Type 0
IsActionFirst log number (action.Down brick serve) = IsSentFirst log number brick (action.Down brick serve)
IsActionFirst log number (action.Up brick) = IsSentFirst log number brick (action.Up brick)
IsActionFirst log number (action.Fault brick p n) = IsSentFirst log number brick (action.Fault brick p n)
IsActionFirst log number (action.Cut brick) = Unit {0}
IsActionFirst log number action.Heal = Unit {0}
IsActionFirst log number (action.Switch volfile) = Unit {0}

abbrev pub IsEventAt : List SentLine → ℕ → ℕ → HubEvent → Type 0
IsEventAt sent at number (logged.Act a) = IsActionAt sent at number a
IsEventAt sent at number (logged.Submit session line) = Unit {0}
IsEventAt sent at number (logged.Arrive from bytes) = Unit {0}
IsEventAt sent at number (logged.Run graph task) = Unit {0}
IsEventAt sent at number (logged.Arm p q count a) = Unit {0}

abbrev pub IsEventFirst : Log → ℕ → HubEvent → Type 0
IsEventFirst log number (logged.Act a) = IsActionFirst log number a
IsEventFirst log number (logged.Submit session line) = Unit {0}
IsEventFirst log number (logged.Arrive from bytes) = Unit {0}
IsEventFirst log number (logged.Run graph task) = Unit {0}
IsEventFirst log number (logged.Arm at p count a) = Unit {0}

-- The input of each action that has one is the first that its event sends. A hub sends it before all else; the audit asks for this,
-- and the definition only that it was sent.
pub record AreSentFirst (log : Log) : Type 0 where
  pub each : (k : ℕ) (e : HubEvent) → slice_get log.events k ≡ Some e → IsEventFirst log (k + 1) e
