use Rattle.queue_index.proofs.Renumbered.{items_more, fresh_more}
use Rattle.queue_index.proofs.queue.KeyedQueue.renumbered.Goals as goal

pub loop-item-preserved : goal.loop-item-preserved
loop-item-preserved g c = (
  items_more c.loop-item.fresh c.append.new.self c.in_ok-append.field-0 c.in_ok-copy.copy c.in-Some.item.now c.next.new.self c.loop-item.item-iterator c.into_iter-item-iterator.result c.in_ok-append.ensures.added c.in_ok-copy.ensures c.in-Some.ensures.steps c.loop-item.invariant.0,
  fresh_more c.loop-item.fresh c.append.new.self c.in_ok-append.field-0 c.in_ok-copy.copy c.loop-item.invariant.1 c.in_ok-append.ensures.number c.in_ok-append.ensures.added,
)
