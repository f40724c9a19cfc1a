use Rattle.std.proofs.Common.{map, take}
use Rattle.log_audit.specs.Submitted.{AreNext, HaveLeft}
use Rattle.log_audit.proofs.submits.submits_are_in_order.Given as goal

abbrev pub invariant-loop-event : goal.invariant-loop-event
invariant-loop-event l = AreNext l.script (take l.event-index l.log.events) × HaveLeft l.script (take l.event-index l.log.events) (map (λ q. q.items) l.queues.items)
