use Rattle.std.proofs.Common.{◌≡◌, ◌∙◌, arith, length, length-take}
use Rattle.std.proofs.lemmas.List.{take_at}
use Rattle.xl_base.proofs.Prefixes.{consumed_more, too_many}
use Rattle.xl_base.proofs.whole_reads.read_all.Goals as goal

pub returns-then-count-limit-clause-too_long : goal.returns-then-count-limit-clause-too_long
returns-then-count-limit-clause-too_long g c = λ _. too_many _ _ _ _ _ _ _ (omega (arith, c.if-count-limit.true, c.len.ensures, c.loop-count.all.ok.0, c.loop-count.invariant.0)) c.in-Ok.ensures.bound.0 c.loop-count.invariant.2 c.in-Ok.ensures.bytes.0

pub loop-count-preserved : goal.loop-count-preserved
loop-count-preserved g c =
    let same : length c.read.new.buf ≡ c.loop-count.piece.len = omega (arith, c.read.auto.buf, c.as_mut_slice.ensures.len) in
    let piece = c.deref.ensures.value ∙ take_at c.read.new.buf _ _ same in (
      omega (arith, c.in_ok-extend_from_slice.ensures.len, c.extend_from_slice.new.self.ok.0, c.loop-count.all.ok.0, c.if-count-limit.false, c.len.ensures, c.loop-count.invariant.0, length-take c.in-Ok.count c.deref.result.now),
      rw (take_at c.read.new.buf _ _ same) (omega (arith, same, c.loop-count.piece.ok.0, c.loop-count.invariant.1)),
      rw c.in_ok-extend_from_slice.ensures.items (consumed_more _ _ _ _ _ c.loop-count.invariant.2 (rw piece c.in-Ok.ensures.bytes.0)),
      omega (arith, c.loop-count.invariant.3, c.in-Ok.ensures.rising),
    )
