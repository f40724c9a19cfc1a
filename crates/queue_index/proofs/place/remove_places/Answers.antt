use Rattle.std.proofs.Common.{arith}
use Rattle.queue_index.proofs.Steps.{take_one}
use Rattle.queue_index.proofs.place.remove_places.Goals as goal

pub loop-at-preserved : goal.loop-at-preserved
loop-at-preserved g c = λ q. take_one _ c.loop-at.at c.key-key.result c.args.number q _ _ _ c.key-key.ensures (omega arith) (c.loop-at.invariant q) (c.remove.ensures.updates.0 q)
