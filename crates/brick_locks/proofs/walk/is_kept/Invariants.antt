use Rattle.std.proofs.Common.{◌≡◌, drop}
use Rattle.std.specs.List.{list_any}
use Rattle.queue_index.specs.Queue.{items, before}
use Rattle.brick_locks.specs.Walks.{bars, meets}
use Rattle.brick_locks.proofs.walk.is_kept.Given as goal

abbrev pub invariant-loop-cell : goal.invariant-loop-cell
invariant-loop-cell l = list_any (λ c. list_any (bars c l.shared) (items (before l.number l.queue))) (drop l.cell-index l.cells) ≡ list_any (meets l.cells l.shared) (items (before l.number l.queue))
