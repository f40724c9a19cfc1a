use Rattle.std.proofs.Common.{ℕ, ◌<◌, ◌≡◌}
use Rattle.std.specs.Prelude.{◌+◌, Some, slice_get}
use Rattle.mount_log.specs.declared.logs.HubEvent.{HubEvent}
use Rattle.line_audit.specs.Caused.{IsEventCarried, IsEventFirst, AreBefore}
use Rattle.line_audit.proofs.downs.downs_are_carried.Given as goal

abbrev pub invariant-loop-k : goal.invariant-loop-k
invariant-loop-k l = record {
  carried : (i : ℕ) (e : HubEvent) → i < l.k → slice_get l.log.events i ≡ Some e → IsEventCarried l.log (i + 1) e;
  first : (i : ℕ) (e : HubEvent) → i < l.k → slice_get l.log.events i ≡ Some e → IsEventFirst l.log (i + 1) e;
  before : AreBefore l.log.sent l.at (l.k + 1);
}
