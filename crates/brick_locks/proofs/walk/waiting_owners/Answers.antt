use Rattle.std.proofs.Common.{arith, sym, ap, ◌∙◌, not, Bool}
use Rattle.queue_index.specs.Queue.{items, before, item_at, is_at_number}
use Rattle.brick_locks.specs.Walks.{waits}
use Rattle.brick_locks.proofs.Rests.{picked_more, picked_skip}
use Rattle.brick_locks.proofs.walk.waiting_owners.Goals as goal

pub loop-number-preserved-in_default : goal.loop-number-preserved-in_default
loop-number-preserved-in_default c = picked_skip (waits c.args.queue.now) c.args.queue.now c.args.numbers.now c.loop-number.number-index _ _ _ (omega arith) c.in_default.ensures c.loop-number.invariant

pub loop-number-preserved : goal.loop-number-preserved
loop-number-preserved c = picked_more (waits c.args.queue.now) c.args.queue.now c.args.numbers.now c.loop-number.number-index _ _ _ _ _ (omega arith) c.in-Some.ensures c.in_ok-push.ensures.ok c.loop-number.invariant
