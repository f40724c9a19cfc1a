use Rattle.std.proofs.Common.{arith}
use Rattle.xl_base.proofs.Prefixes.{appended_more, still_within}
use Rattle.xl_base.proofs.whole_writes.write_all.Goals as goal

pub loop-at-preserved : goal.loop-at-preserved
loop-at-preserved g c = (
  still_within _ _ _ c.loop-at.invariant.0 c.in-Ok.ensures.bound,
  appended_more _ _ _ _ _ _ c.loop-at.invariant.1 c.in-Ok.ensures.bytes,
  omega (arith, c.loop-at.invariant.2, c.in-Ok.ensures.rising),
)
