use Rattle.std.proofs.Common.{refl, arith}
use Rattle.error_audit.proofs.Different.{rising_of, not_rising}
use Rattle.error_audit.proofs.enough.are_rising.Goals as goal

pub returns : goal.returns
returns g c = (λ _. rising_of c.args.pairs.now (λ j d lt. c.loop-k.invariant j d (omega (arith, lt))), λ _. refl)

pub returns-then-pairs-k : goal.returns-then-pairs-k
returns-then-pairs-k g c = (
  λ no. absurd cc,
  λ rise. absurd (not_rising c.args.pairs.now c.loop-k.k c.index-pairs-k.result c.index-pairs-k-in-loop-k.result (omega arith) c.loop-k-test.true c.if-pairs-k.true rise),
)
