-- Arrivals that are timely: each output counts no more inputs than were sent to its brick before it arrived. Events are numbered
-- from 1.
use Rattle.std.specs.Prelude.{◌≡◌, ℕ, ◌+◌, ◌≤◌, true, List, Some, length, map, slice_get, take}
use Rattle.fop_types.specs.declared.messages.Output.{Output}
use Rattle.wire_messages.specs.Messages.{output_in}
use Rattle.wire_messages.specs.declared.messages.Message.{Message}
use Rattle.wire_messages.specs.declared.messages.Message.TheVariants.{Whole, Wrong}
use Rattle.mount_log.specs.Arrivals.{inputs_to, sent_before}
use Rattle.mount_log.specs.Ties.{do_rise}
use Rattle.mount_log.specs.declared.logs.HubEvent.{HubEvent}
use Rattle.mount_log.specs.declared.logs.HubEvent.TheVariants as logged
use Rattle.mount_log.specs.declared.logs.SentLine.{SentLine}
use Rattle.log_audit.specs.declared.timely.Passed.{Passed}

-- the output counts at most so many inputs
abbrev pub CountsAtMost : Message Output → ℕ → Type 0
CountsAtMost (Whole output) many = output.taken ≤ many
CountsAtMost (Wrong place) many = Unit {0}

-- what arrives from this brick in the event of this number is timely
abbrev pub IsTimely : ℕ → List SentLine → ℕ → HubEvent → Type 0
IsTimely brick sent number (logged.Arrive from bytes) = from ≡ brick → CountsAtMost (output_in bytes) (sent_before number brick sent)
IsTimely brick sent number (logged.Submit session line) = Unit {0}
IsTimely brick sent number (logged.Run graph task) = Unit {0}
IsTimely brick sent number (logged.Act a) = Unit {0}
IsTimely brick sent number (logged.Arm at p count a) = Unit {0}

pub record AreTimely (brick : ℕ) (events : List HubEvent) (sent : List SentLine) : Type 0 where
  pub each : (k : ℕ) (e : HubEvent) → slice_get events k ≡ Some e → IsTimely brick sent (k + 1) e

-- what was sent is in the order of its events, as a hub writes it
abbrev pub SentInOrder : List HubEvent → List SentLine → Type 0
SentInOrder events sent = do_rise 0 (length events) (map (λ l. l.event) sent) ≡ true

-- how many of the lines that were passed were sent to the brick, and at least how many of them before the event
pub record IsLow (brick number : ℕ) (sent : List SentLine) (p : Passed) : Type 0 where
  pub low : p.count ≤ sent_before number brick (take p.next sent)
  pub few : p.count ≤ p.next
  pub all : p.count ≡ length (inputs_to brick (take p.next sent))

-- the next line, if there is one, was not sent before the event
abbrev pub ArePassed : ℕ → List SentLine → Passed → Type 0
ArePassed number sent p = (line : SentLine) → slice_get sent p.next ≡ Some line → number ≤ line.event
