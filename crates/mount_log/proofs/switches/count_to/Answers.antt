use Rattle.std.proofs.Common.{arith}
use Rattle.mount_log.proofs.Switching.{counted_next}
use Rattle.mount_log.proofs.switches.count_to.Goals as goal

pub loop-now-preserved : goal.loop-now-preserved
loop-now-preserved c = (
  counted_next c.args.events.now c.loop-now.now c.index-events-now.result c.switch_in.result c.loop-now-test.true c.index-events-now.is c.switch_in.ensures.value c.switch_in.ensures.few c.loop-now.invariant.0,
  (let low = c.loop-now.invariant.1.0 in omega (arith, low), omega (arith, c.if-now-number.false, c.loop-now-test.true)),
)
