use Rattle.std.proofs.Common.{◌≡◌, ◌+◌, map, length, take}
use Rattle.line_audit.specs.Linked.{items_of, AreByEvent}
use Rattle.line_audit.proofs.lines_sent.by_event.Given as goal

abbrev pub invariant-loop-k : goal.invariant-loop-k
invariant-loop-k l = AreByEvent (items_of (take l.k l.log.sent)) (map (λ q. q.items) l.lists.items) × (length l.lists.items ≡ length l.log.events + 1)
