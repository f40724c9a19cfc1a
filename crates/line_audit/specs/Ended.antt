-- What ends the wind of a request, as an audit finds it.
use Rattle.std.specs.Prelude.{◌≡◌, ℕ, ◌-◌, ◌==◌, if◌then◌else◌, false, List, Option, None, Some, slice_get}
use Rattle.fop_types.specs.declared.messages.Input.{Input}
use Rattle.fop_types.specs.declared.messages.Input.TheVariants as input
use Rattle.fop_types.specs.declared.messages.Output.{Output}
use Rattle.wire_messages.specs.Messages.{input_in, output_in}
use Rattle.wire_messages.specs.declared.messages.Message.{Message}
use Rattle.wire_messages.specs.declared.messages.Message.TheVariants.{Whole, Wrong}
use Rattle.xlator_law.specs.declared.winds.WindNo.{WindNo}
use Rattle.mount_log.specs.Follows.{IsEvent}
use Rattle.mount_log.specs.Ties.{IsNumberOf, EndsWind, HasEnd}
use Rattle.mount_log.specs.declared.logs.HubEvent.{HubEvent}
use Rattle.mount_log.specs.declared.logs.HubEvent.TheVariants as logged
use Rattle.mount_log.specs.declared.logs.Log.{Log}
use Rattle.mount_log.specs.declared.logs.SentLine.{SentLine}
use Rattle.mount_log.specs.declared.logs.WindLine.{WindLine}
use Rattle.mount_log.specs.Heads.{head_in}
use Rattle.mount_log.specs.declared.heads.Head.{Head}
use Rattle.mount_log.specs.declared.heads.Said.{Said}
use Rattle.mount_log.specs.declared.heads.Said.TheVariants as said
use Rattle.line_audit.specs.declared.tied_ends.EndedAt.{EndedAt}

-- ---- by an output

-- the head of the event of this number, from 1
abbrev pub head_by : List Head → ℕ → Option Head
head_by heads number = if number == 0 then None else slice_get heads (number - 1)

abbrev pub SaysEnd : WindNo → Said → Type 0
SaysEnd wind (said.Reply number) = IsNumberOf wind number
SaysEnd wind (said.Gone number) = IsNumberOf wind number
SaysEnd wind said.Closed = Unit {0}
SaysEnd wind said.Opened = ⊥
SaysEnd wind said.Other = ⊥

abbrev pub IsEndEvent : ℕ → WindNo → HubEvent → Type 0
IsEndEvent brick wind (logged.Arrive from bytes) = (from ≡ brick) × SaysEnd wind (head_in (output_in bytes)).said
IsEndEvent brick wind (logged.Submit session line) = ⊥
IsEndEvent brick wind (logged.Run graph task) = ⊥
IsEndEvent brick wind (logged.Act a) = ⊥
IsEndEvent brick wind (logged.Arm at p count a) = ⊥

-- what arrives from the brick in the event ends the wind
pub record IsEndedByOutput (log : Log) (brick : ℕ) (ending : WindLine) : Type 0 where
  pub bytes : List ℕ
  pub output : Output
  pub event : IsEvent log ending.event (logged.Arrive brick bytes)
  pub read : output_in bytes ≡ Whole output
  pub ends : EndsWind ending.wind output.kind

-- ---- by a Disconnect

abbrev pub SaysDisconnect : ℕ → Message Input → Type 0
SaysDisconnect graph (Whole found) = found ≡ input.Disconnect graph
SaysDisconnect graph (Wrong place) = ⊥

pub record IsDisconnect (number brick graph : ℕ) (line : SentLine) : Type 0 where
  pub event_is : line.event ≡ number
  pub brick_is : line.brick ≡ brick
  pub says : SaysDisconnect graph (input_in line.bytes)

pub record IsDisconnectAt (sent : List SentLine) (at number brick graph : ℕ) : Type 0 where
  pub line : SentLine
  pub there : slice_get sent at ≡ Some line
  pub is : IsDisconnect number brick graph line

-- a Disconnect that ends the wind is at this place, if there is one
abbrev pub IsPlaceOfDisconnect : Log → ℕ → WindLine → ℕ → Type 0
IsPlaceOfDisconnect log brick ending disconnect = (at : ℕ) → IsDisconnectAt log.sent at ending.event brick ending.graph → IsDisconnectAt log.sent disconnect ending.event brick ending.graph

-- ---- of a request

pub record IsEndingOf (number graph : ℕ) (line : WindLine) : Type 0 where
  pub is_end : line.opened ≡ false
  pub same_graph : line.graph ≡ graph
  pub of_wind : IsNumberOf line.wind number

abbrev pub IsInputEnded : Log → ℕ → Input → Type 0
IsInputEnded log brick (input.Request number graph request) = HasEnd log brick number graph
IsInputEnded log brick (input.Connect graph version) = Unit {0}
IsInputEnded log brick (input.Disconnect graph) = Unit {0}
IsInputEnded log brick (input.Down serve) = Unit {0}
IsInputEnded log brick input.Up = Unit {0}
IsInputEnded log brick (input.FaultAt p number) = Unit {0}

-- the end of a request's wind is at this place, if there is one, and so is a Disconnect that ends it
pub record IsPlaceOfEnding (log : Log) (brick number graph : ℕ) (ended : EndedAt) : Type 0 where
  pub end : (h : HasEnd log brick number graph) → h.place ≡ ended.end
  pub disconnect : (ending : WindLine) → slice_get log.winds ended.end ≡ Some ending → IsPlaceOfDisconnect log brick ending ended.disconnect

abbrev pub IsPlaceOfInputEnd : Log → ℕ → EndedAt → Input → Type 0
IsPlaceOfInputEnd log brick ended (input.Request number graph request) = IsPlaceOfEnding log brick number graph ended
IsPlaceOfInputEnd log brick ended (input.Connect graph version) = Unit {0}
IsPlaceOfInputEnd log brick ended (input.Disconnect graph) = Unit {0}
IsPlaceOfInputEnd log brick ended (input.Down serve) = Unit {0}
IsPlaceOfInputEnd log brick ended input.Up = Unit {0}
IsPlaceOfInputEnd log brick ended (input.FaultAt p number) = Unit {0}

abbrev pub IsPlaceOfMessageEnd : Log → ℕ → EndedAt → Message Input → Type 0
IsPlaceOfMessageEnd log brick ended (Whole found) = IsPlaceOfInputEnd log brick ended found
IsPlaceOfMessageEnd log brick ended (Wrong place) = Unit {0}

abbrev pub IsEnded : Log → ℕ → Message Input → Type 0
IsEnded log brick (Whole found) = IsInputEnded log brick found
IsEnded log brick (Wrong place) = Unit {0}

abbrev pub AreEnded : Log → Type 0
AreEnded log = (k : ℕ) (line : SentLine) → slice_get log.sent k ≡ Some line → IsEnded log line.brick (input_in line.bytes)
