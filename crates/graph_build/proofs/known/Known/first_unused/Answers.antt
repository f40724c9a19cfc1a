use Rattle.std.proofs.Common.{arith, ◌∙◌, sym}
use Rattle.graph_build.proofs.UnusedLemmas.{unused_on, unused_here, unused_end}
use Rattle.graph_build.proofs.known.Known.first_unused.Goals as goal

pub returns-then-not-is_used : goal.returns-then-not-is_used
returns-then-not-is_used c =
    unused_here c.args.self.now c.args.self.now c.loop-place.place _ (omega (arith, c.loop-place-test.true, c.len-size.ensures)) (sym c.is_used.ensures ∙ c.if-not-is_used.true) c.loop-place.invariant.1

pub loop-place-preserved : goal.loop-place-preserved
loop-place-preserved c = (
  omega (arith, c.loop-place-test.true, c.len-size.ensures),
  unused_on c.args.self.now c.args.self.now c.loop-place.place _ (omega (arith, c.loop-place-test.true, c.len-size.ensures)) (sym c.is_used.ensures ∙ c.if-not-is_used.false) c.loop-place.invariant.1,
)

pub returns : goal.returns
returns c = unused_end c.args.self.now c.args.self.now c.loop-place.place _ (omega (arith, c.loop-place-test.false, c.len-size.ensures)) c.loop-place.invariant.1
