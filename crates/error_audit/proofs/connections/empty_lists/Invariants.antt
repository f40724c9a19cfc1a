use Rattle.std.proofs.Common.{◌≡◌, [], length, map}
use Rattle.error_audit.specs.Opened.{AreByBrick}
use Rattle.error_audit.proofs.connections.empty_lists.Given as goal

abbrev pub invariant-loop : goal.invariant-loop
invariant-loop l = (length l.lists.items ≡ l.counter) × AreByBrick [] (map (λ q. q.items) l.lists.items)
