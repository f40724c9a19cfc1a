use Rattle.std.proofs.Common.{◌≤◌, map}
use Rattle.mount_log.specs.Switches.{IsCounted}
use Rattle.log_audit.specs.Called.{AreGathered}
use Rattle.log_audit.proofs.calls_made.calls_made.Given as goal

abbrev pub invariant-loop-k : goal.invariant-loop-k
invariant-loop-k l = AreGathered l.script l.log l.k (map (λ q. q.items) l.queues.items) l.calls.items × IsCounted l.log.events l.passed × (l.passed.next ≤ l.k)
