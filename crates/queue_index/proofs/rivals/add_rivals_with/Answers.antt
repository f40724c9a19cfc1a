use Rattle.std.proofs.Common.{arith}
use Rattle.std.specs.Ordering.{nat_cmp}
use Rattle.std.specs.BTreeSet as sorted
use Rattle.queue_index.specs.Queue.{is_at_number}
use Rattle.queue_index.specs.Rivals.{meets_key}
use Rattle.queue_index.proofs.Contention.{put_rest, item_start}
use Rattle.queue_index.proofs.rivals.add_rivals_with.Goals as goal

pub loop-at-init : goal.loop-at-init
loop-at-init g c = λ q. item_start g.T.Keyed.keys c.args.item.now q (sorted.contains nat_cmp c.args.found.now q) c.args.queue.now

pub loop-at-preserved : goal.loop-at-preserved
loop-at-preserved g c = λ q. put_rest (λ k. is_at_number (λ _. meets_key g.T.Keyed.keys k) c.args.queue.now q) (g.T.Keyed.keys c.args.item.now) c.loop-at.at c.key-key.result _ _ _ (omega arith) c.key-key.ensures (c.in_ok-add_rivals_on.ensures q) (c.loop-at.invariant q)
