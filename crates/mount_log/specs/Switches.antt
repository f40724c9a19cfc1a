-- The event of a number, and how many of the events that were passed are switches.
use Rattle.std.specs.Prelude.{◌≡◌, ℕ, ◌-◌, ◌≤◌, ◌==◌, List, Option, None, length, slice_get, take, if◌then◌else◌}
use Rattle.mount_log.specs.Graphs.{switches_in}
use Rattle.mount_log.specs.declared.logs.HubEvent.{HubEvent}
use Rattle.mount_log.specs.declared.logs.Log.{Log}
use Rattle.mount_log.specs.declared.switches.Switched.{Switched}

-- the event of this number, from 1
abbrev pub event_of : Log → ℕ → Option HubEvent
event_of log number = if number == 0 then None else slice_get log.events (number - 1)

-- so many of the events that were passed are switches
pub record IsCounted (events : List HubEvent) (passed : Switched) : Type 0 where
  pub count : passed.count ≡ length (switches_in (take passed.next events))
  pub few : passed.count ≤ passed.next
