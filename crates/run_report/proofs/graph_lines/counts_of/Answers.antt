use Rattle.std.proofs.Common.{◌≡◌, sym, ap, ◌∙◌, arith}
use Rattle.std.specs.Prelude.{◌<◌, ◌≤◌, length}
use Rattle.run_report.proofs.Counting.{kept, counted, low}
use Rattle.run_report.proofs.graph_lines.counts_of.Goals as goal

pub loop-k-preserved-in_default : goal.loop-k-preserved-in_default
loop-k-preserved-in_default c =
    kept c.args.winds.now c.loop-k.k _ (omega (arith, c.loop-k-test.true)) c.args.graphs c.loop-k.counts.items
    (λ at within. c.in_default.ensures.none at (omega (arith, c.len.ensures, c.loop-k.counts.ok.0, within))) c.loop-k.invariant

pub with_line-requires : goal.with_line-requires
with_line-requires c =
    low c.args.winds.now c.loop-k.k (omega (arith, c.loop-k-test.true)) c.args.graphs c.loop-k.counts.items c.in-Some.at c.index.result.now
    (omega (arith, c.len.ensures, c.loop-k.counts.ok.0, c.in-Some.ensures.there.1)) c.index.ensures (omega (arith, c.loop-k-test.true)) c.loop-k.invariant

pub loop-k-preserved : goal.loop-k-preserved
loop-k-preserved c =
    counted c.args.winds.now c.loop-k.k _ (omega (arith, c.loop-k-test.true)) c.args.graphs c.loop-k.counts.items c.in-Some.at c.with_line.result c.index.result.now
    c.in-Some.ensures.there.0 (omega (arith, c.len.ensures, c.loop-k.counts.ok.0, c.in-Some.ensures.there.1)) c.index.ensures c.with_line.ensures.opened c.with_line.ensures.ended c.loop-k.invariant
