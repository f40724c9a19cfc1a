-- Events by their numbers, from 1.
use Rattle.std.specs.Prelude.{◌≡◌, ℕ, ◌-◌, ◌≤◌, Some, slice_get}
use Rattle.mount_log.specs.declared.logs.HubEvent.{HubEvent}
use Rattle.mount_log.specs.declared.logs.Log.{Log}

-- the event of this number
pub record IsEvent (log : Log) (number : ℕ) (e : HubEvent) : Type 0 where
  pub from_one : 1 ≤ number
  pub there : slice_get log.events (number - 1) ≡ Some e
