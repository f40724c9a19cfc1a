use Rattle.std.proofs.Common.{arith}
use Rattle.dht_layout.proofs.EvenSplit.{one_more, made_covers}
use Rattle.dht_layout.proofs.layout.even.Goals as goal

pub loop-set-preserved : goal.loop-set-preserved
loop-set-preserved c = record {
  so_far = one_more _ _ _ _ _ c.loop-set.invariant.so_far c.even_span.ensures c.push_reserved.ensures.items;
  count = omega (arith, c.push_reserved.ensures.len, c.loop-set.invariant.count);
  room = omega (arith, c.push_reserved.ensures.capacity, c.loop-set.invariant.room);
}

pub returns-clause-once : goal.returns-clause-once
returns-clause-once c = made_covers c.args.sets c.loop-set.set _ _ (omega arith) (omega arith) c.from_vec.ensures c.loop-set.invariant.so_far (omega arith)
