use Rattle.std.specs.Prelude.{ℕ, ◌≡◌, ◌<◌, ◌+◌, Some, slice_get}
use Rattle.mount_log.specs.declared.logs.HubEvent.{HubEvent}
use Rattle.run_audit.specs.Controlled.{IsOfControl}
use Rattle.run_audit.proofs.acts.acts_are_of_controls.Given as goal

abbrev pub invariant-loop-k : goal.invariant-loop-k
invariant-loop-k l = (i : ℕ) (e : HubEvent) → i < l.k → slice_get l.log.events i ≡ Some e → IsOfControl l.script l.notes l.last (i + 1) e
