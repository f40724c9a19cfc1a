use Rattle.std.proofs.Common.{arith, ◌∙◌}
use Rattle.hub_calls.proofs.Rewriting.{written_more, written, put_back}
use Rattle.hub_calls.proofs.numbering.number_all.Goals as goal

pub loop-at-preserved : goal.loop-at-preserved
loop-at-preserved c = written_more (λ _. c.args.number) c.args.numbers.now c.loop-at.at-items c.loop-at.at-index 0 (omega arith) c.loop-at.invariant

pub returns : goal.returns
returns c =
    rw (c.replace-2.ensures.after, c.from_vec.ensures)
    (put_back c.into_vec-items.result.len c.loop-at.at-items _ (omega (arith, c.into_vec-items.result.ok.0, c.deref_mut-at-items.ensures.len, c.loop-at.auto.at-items))
    ∙ written (λ _. c.args.number) c.args.numbers.now c.loop-at.at-items c.loop-at.at-index c.loop-at.invariant (omega arith))
