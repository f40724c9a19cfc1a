use Rattle.std.proofs.Common.{◌≡◌, length, map, take}
use Rattle.error_audit.specs.Opened.{AreByBrick}
use Rattle.error_audit.proofs.connections.by_brick.Given as goal

abbrev pub invariant-loop-k : goal.invariant-loop-k
invariant-loop-k l = (length l.lists.items ≡ 256) × AreByBrick (take l.k l.openings) (map (λ q. q.items) l.lists.items)
