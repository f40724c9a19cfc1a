use Rattle.std.proofs.Common.{◌≡◌, ◌++◌, ◌==◌, map, take}
use Rattle.std.specs.List.{IsDistinct}
use Rattle.mount_log.specs.Causes.{brick_of}
use Rattle.error_audit.proofs.enough.push_lost.Given as goal

abbrev pub invariant-loop-pair : goal.invariant-loop-pair
invariant-loop-pair l =
    (l.bricks.items ≡ l.fn.bricks.items ++ map brick_of (take l.pair-index l.lost)) × (IsDistinct ◌==◌ l.fn.bricks.items → IsDistinct ◌==◌ l.bricks.items)
