use Rattle.std.proofs.Common.{sym, ap, ◌∙◌}
use Rattle.std.specs.List.{list_any}
use Rattle.queue_index.specs.Queue.{items}
use Rattle.brick_locks.specs.Locks.{is_known}
use Rattle.brick_locks.proofs.Touches.{any_known}
use Rattle.brick_locks.proofs.locks.BrickLocks.knows.Goals as goal

pub returns : goal.returns
returns c = rw (← c.self.view_is) (c.has.ensures ∙ any_known c.args.owner c.owner_key.result (items c.self.inside.queue) c.owner_key.ensures)
