use Rattle.std.proofs.Common.{◌≡◌, [], map, length}
use Rattle.line_audit.specs.Linked.{AreByEvent}
use Rattle.line_audit.proofs.lines_sent.empty_lists.Given as goal

abbrev pub invariant-loop : goal.invariant-loop
invariant-loop l = AreByEvent [] (map (λ q. q.items) l.lists.items) × (length l.lists.items ≡ l.counter)
