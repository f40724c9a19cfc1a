use Rattle.std.proofs.Common.{arith}
use Rattle.brick_locks.proofs.Rests.{take_rest, none_left}
use Rattle.brick_locks.proofs.walk.remove_all.Goals as goal

pub loop-number-preserved : goal.loop-number-preserved
loop-number-preserved c = take_rest c.args.numbers.now c.loop-number.number-index _ c.loop-number.queue _ _ (omega arith) c.remove.ensures c.loop-number.invariant

pub returns : goal.returns
returns c = none_left _ _ c.args.numbers.now c.loop-number.number-index (omega arith) c.loop-number.invariant
