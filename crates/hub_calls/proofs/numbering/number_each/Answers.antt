use Rattle.std.proofs.Common.{arith}
use Rattle.hub_calls.proofs.EventNumbers.{one_number_more}
use Rattle.hub_calls.proofs.numbering.number_each.Goals as goal

pub loop-preserved : goal.loop-preserved
loop-preserved g c = rw c.in_ok-push.ensures.ok (one_number_more c.args.number c.loop.numbers c.args.items.now c.loop.counter (omega (arith, c.loop-test.true)) c.loop.invariant)
