use Rattle.std.proofs.Common.{arith, ◌∙◌}
use Rattle.hub_calls.specs.EventNumbers.{wind_in}
use Rattle.hub_calls.proofs.Rewriting.{written_more, written, put_back}
use Rattle.hub_calls.proofs.numbering.number_winds.Goals as goal

pub loop-line-preserved : goal.loop-line-preserved
loop-line-preserved c = written_more (wind_in c.args.number) c.args.lines.now c.loop-line.line-items c.loop-line.line-index _ (omega arith) c.loop-line.invariant

pub returns : goal.returns
returns c =
    rw (c.replace-2.ensures.after, c.from_vec.ensures)
    (put_back c.into_vec-items.result.len c.loop-line.line-items _ (omega (arith, c.into_vec-items.result.ok.0, c.deref_mut-line-items.ensures.len, c.loop-line.auto.line-items))
    ∙ written (wind_in c.args.number) c.args.lines.now c.loop-line.line-items c.loop-line.line-index c.loop-line.invariant (omega arith))
