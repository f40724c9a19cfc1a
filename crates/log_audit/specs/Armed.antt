-- Lines that can be armed, one behind the other, up to a request.
use Rattle.std.specs.Prelude.{◌≡◌, ℕ, ◌<◌, ◌≤◌, List, Some, length, slice_get}
use Rattle.fop_types.specs.declared.messages.Input.{Input}
use Rattle.wire_messages.specs.Messages.{input_in}
use Rattle.wire_messages.specs.declared.messages.Message.{Message}
use Rattle.wire_messages.specs.declared.messages.Message.TheVariants.{Whole, Wrong}
use Rattle.mount_log.specs.Arms.{CanBeArmed, IsArmedLine}
use Rattle.mount_log.specs.declared.logs.SentLine.{SentLine}
use Rattle.log_audit.specs.declared.armed_lines.ArmedLines.{ArmedLines}

abbrev pub IsArmable : Message Input → Type 0
IsArmable (Whole x) = CanBeArmed x
IsArmable (Wrong place) = ⊥

-- the line sends this brick, in this event, what is read as an input that can be armed
pub record IsArmedFor (event brick : ℕ) (line : SentLine) : Type 0 where
  pub same_event : line.event ≡ event
  pub same_brick : line.brick ≡ brick
  pub armable : IsArmable (input_in line.bytes)

-- each line from this place up to the stop sends this brick, in this event, an input that can be armed; where there are any,
-- the line at the stop does not
pub record AreArmedFrom (sent : List SentLine) (from : ℕ) (armed : ArmedLines) : Type 0 where
  pub each : (k : ℕ) (line : SentLine) → from ≤ k → k < armed.stop → slice_get sent k ≡ Some line → IsArmedLine armed.event armed.brick line
  pub end : (line : SentLine) → from < armed.stop → slice_get sent armed.stop ≡ Some line → IsArmedFor armed.event armed.brick line → ⊥

-- the line at the place is among the armed lines, if it can be armed
abbrev pub IsAmong : List SentLine → ℕ → ArmedLines → Type 0
IsAmong sent at armed = (line : SentLine) → slice_get sent at ≡ Some line → IsArmable (input_in line.bytes) → at < armed.stop

-- the armed lines that are given for each place begin there
abbrev pub AreAllArmed : List SentLine → List ArmedLines → Type 0
AreAllArmed sent all = (k : ℕ) (armed : ArmedLines) → slice_get all k ≡ Some armed → AreArmedFrom sent k armed

-- the line at each place of what was sent is among the armed lines that are given for it, if it can be armed
pub record AreAllAmong (sent : List SentLine) (all : List ArmedLines) : Type 0 where
  pub each : (k : ℕ) (armed : ArmedLines) → slice_get all k ≡ Some armed → IsAmong sent k armed
  pub many : length all ≡ length sent
