use Rattle.std.proofs.Common.{arith}
use Rattle.read_audit.proofs.Listing.{rising_next, rising_all}
use Rattle.read_audit.proofs.lists.are_rising.Goals as goal

pub loop-k-preserved : goal.loop-k-preserved
loop-k-preserved c = record {
  from_one = omega arith;
  rising =
      rising_next c.args.items.now c.loop-k.k c.index-items-k.result c.index-items-k-in-loop-k.result c.loop-k.invariant.from_one c.loop-k-test.true c.index-items-k.is c.index-items-k-in-loop-k.is
      (c.is_below.ensures c.if-not-is_below.false) c.loop-k.invariant.rising;
}

pub returns : goal.returns
returns c = λ _. rising_all c.args.items.now c.loop-k.k c.loop-k-test.false c.loop-k.invariant.rising
