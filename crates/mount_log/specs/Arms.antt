-- What can be armed, and how it goes out: the input of an action is sent directly before its request. Requests are numbered
-- by their procedure and brick, behind an event.
use Rattle.std.specs.Prelude.{◌≡◌, ℕ, ◌+◌, ◌<◌, ◌==◌, nat_lt, ◌&&◌, Bool, false, List, [], ◌∷◌, Option, Some, None, slice_get, take, if◌then◌else◌}
use Rattle.fop_types.specs.declared.messages.Input.{Input}
use Rattle.fop_types.specs.declared.messages.Input.TheVariants as input
use Rattle.fop_types.specs.declared.messages.Proc.{Proc}
use Rattle.script_lang.specs.declared.scripts.Action.{Action}
use Rattle.script_lang.specs.declared.scripts.Action.TheVariants as action
use Rattle.wire_xdr.specs.WireText.{input_text}
use Rattle.mount_log.specs.Procedures.{rank_in, proc_in}
use Rattle.mount_log.specs.declared.logs.Log.{Log}
use Rattle.mount_log.specs.declared.logs.SentLine.{SentLine}

-- the input that an action sends to its brick, if it is one that can be armed
abbrev pub input_of : Action → Option Input
input_of (action.Down brick serve) = Some (input.Down serve)
input_of (action.Fault brick p number) = Some (input.FaultAt p number)
input_of (action.Up brick) = None
input_of (action.Cut brick) = None
input_of action.Heal = None
input_of (action.Switch volfile) = None

-- the action by which an input that can be armed is sent to a brick
abbrev pub action_for : ℕ → Input → Option Action
action_for brick (input.Down serve) = Some (action.Down brick serve)
action_for brick (input.FaultAt p number) = Some (action.Fault brick p number)
action_for brick input.Up = None
action_for brick (input.Connect graph version) = None
action_for brick (input.Disconnect graph) = None
action_for brick (input.Request wind graph req) = None

-- an action can be armed to send the input
abbrev pub CanBeArmed : Input → Type 0
CanBeArmed (input.Down serve) = Unit {0}
CanBeArmed (input.FaultAt p number) = Unit {0}
CanBeArmed input.Up = ⊥
CanBeArmed (input.Connect graph version) = ⊥
CanBeArmed (input.Disconnect graph) = ⊥
CanBeArmed (input.Request wind graph req) = ⊥

pub record AreArmable (bytes : List ℕ) : Type 0 where
  pub sent : Input
  pub can : CanBeArmed sent
  pub text : bytes ≡ input_text sent

-- in this event the line sends the brick an input that can be armed
pub record IsArmedLine (number brick : ℕ) (line : SentLine) : Type 0 where
  pub armable : AreArmable line.bytes
  pub same_brick : line.brick ≡ brick
  pub same_event : line.event ≡ number

-- In this event the action's input is sent to a brick directly before a request of this procedure. Several actions may be
-- armed for one request, so between the two there may be inputs of others.
pub record IsSentBefore (log : Log) (number brick : ℕ) (p : Proc) (a : Action) : Type 0 where
  pub place : ℕ
  pub request_at : ℕ
  pub sent : Input
  pub request : SentLine
  pub is_input : input_of a ≡ Some sent
  pub there : slice_get log.sent place ≡ Some (record { event = number; brick = brick; bytes = input_text sent })
  pub later : place < request_at
  pub between : (k : ℕ) (line : SentLine) → place < k → k < request_at → slice_get log.sent k ≡ Some line → IsArmedLine number brick line
  pub request_there : slice_get log.sent request_at ≡ Some request
  pub same_brick : request.brick ≡ brick
  pub same_event : request.event ≡ number
  pub is_request : proc_in request.bytes ≡ Some p

-- how many requests of the procedure of this rank were sent to a brick behind an event
abbrev pub is_rank : ℕ → Option ℕ → Bool
is_rank rank None = false
is_rank rank (Some found) = found == rank

abbrev pub is_request_since : ℕ → ℕ → ℕ → SentLine → Bool
is_request_since since brick rank line = nat_lt since line.event && ((line.brick == brick) && is_rank rank (rank_in line.bytes))

abbrev pub requests_since : ℕ → ℕ → ℕ → List SentLine → ℕ
requests_since since brick rank [] = 0
requests_since since brick rank (line ∷ lines) = (if is_request_since since brick rank line then 1 else 0) + requests_since since brick rank lines

-- the line at a place is, behind an event, the request of this number to its brick among those of its procedure
pub record IsNth (log : Log) (since at count : ℕ) : Type 0 where
  pub line : SentLine
  pub there : slice_get log.sent at ≡ Some line
  pub rank : ℕ
  pub rank_is : rank_in line.bytes ≡ Some rank
  pub count_is : requests_since since line.brick rank (take (at + 1) log.sent) ≡ count
