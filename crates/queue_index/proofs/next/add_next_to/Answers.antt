use Rattle.std.proofs.Common.{arith}
use Rattle.std.specs.Ordering.{nat_cmp}
use Rattle.std.specs.BTreeSet as sorted
use Rattle.queue_index.specs.Queue.{is_at_number}
use Rattle.queue_index.specs.Next.{is_next_on}
use Rattle.queue_index.proofs.Contention.{put_rest}
use Rattle.queue_index.proofs.Following.{things_start}
use Rattle.queue_index.proofs.next.add_next_to.Goals as goal

pub loop-at-init : goal.loop-at-init
loop-at-init g c = λ q. things_start g.T.Keyed.keys c.args.item.now q c.args.from (sorted.contains nat_cmp c.args.found.now q) c.args.queue.now

pub loop-at-preserved : goal.loop-at-preserved
loop-at-preserved g c = λ q. put_rest (λ k. is_at_number (is_next_on g.T.Keyed.keys c.args.queue.now c.args.from k) c.args.queue.now q) (g.T.Keyed.keys c.args.item.now) c.loop-at.at c.key-key.result _ _ _ (omega arith) c.key-key.ensures (c.in_ok-add_next_on.ensures q) (c.loop-at.invariant q)
