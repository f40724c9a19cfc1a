use Rattle.queue_index.specs.Queue.{items, before}
use Rattle.brick_locks.proofs.Touches.{any_meets}
use Rattle.brick_locks.proofs.walk.is_kept.Goals as goal

pub loop-cell-init : goal.loop-cell-init
loop-cell-init c = any_meets c.args.cells.now c.args.shared (items (before c.args.number c.args.queue.now))
