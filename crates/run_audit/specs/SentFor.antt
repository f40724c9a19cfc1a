-- What an audit of Downs and FaultAts finds: the action by which a line was sent, and what it was sent for.
use Rattle.std.specs.Prelude.{◌≡◌, ℕ, ◌-◌, ◌<◌, ◌≤◌, List, Option, Some, slice_get}
use Rattle.fop_types.specs.declared.messages.Input.{Input}
use Rattle.script_lang.specs.declared.scripts.Action.{Action}
use Rattle.script_lang.specs.declared.scripts.ControlLine.{ControlLine}
use Rattle.script_lang.specs.declared.scripts.Script.{Script}
use Rattle.wire_messages.specs.Messages.{input_in}
use Rattle.wire_messages.specs.declared.messages.Message.TheVariants.{Whole}
use Rattle.mount_log.specs.Arms.{action_for}
use Rattle.mount_log.specs.Controls.{control_at, IsSentFor}
use Rattle.mount_log.specs.Phases.{Course}
use Rattle.mount_log.specs.declared.logs.Log.{Log}
use Rattle.mount_log.specs.declared.logs.SentLine.{SentLine}

-- where bytes to a brick are the input of an action, it is this one
abbrev pub HasAction : ℕ → List ℕ → Option Action → Type 0
HasAction brick bytes found = (sent : Input) (a : Action) → input_in bytes ≡ Whole sent → action_for brick sent ≡ Some a → found ≡ Some a

-- bytes to a brick are the input of the action
pub record IsActionOf (brick : ℕ) (bytes : List ℕ) (a : Action) : Type 0 where
  pub sent : Input
  pub is : input_in bytes ≡ Whole sent
  pub by : action_for brick sent ≡ Some a

pub record HasControl (script : Script) (phase at : ℕ) : Type 0 where
  pub control : ControlLine
  pub there : control_at script phase at ≡ Some control

-- the line before a place was sent in an earlier event
abbrev pub IsFirst : List SentLine → ℕ → ℕ → Type 0
IsFirst sent k number = (before : SentLine) → 1 ≤ k → slice_get sent (k - 1) ≡ Some before → before.event < number

-- where a line is the input of an action, it was sent for that
abbrev pub IsLineSentFor : Script → Log → Course → ℕ → SentLine → Type 0
IsLineSentFor script log course k line = (sent : Input) (a : Action) → input_in line.bytes ≡ Whole sent → action_for line.brick sent ≡ Some a → IsSentFor script log course k line a

abbrev pub AreSentFor : Script → Log → Course → Type 0
AreSentFor script log course = (k : ℕ) (line : SentLine) → slice_get log.sent k ≡ Some line → IsLineSentFor script log course k line
