use Rattle.std.proofs.Common.{arith}
use Rattle.graph_nodes.proofs.Wired.{wired_read}
use Rattle.graph_nodes.proofs.fits.all_wired.Goals as goal

pub loop-i-preserved : goal.loop-i-preserved
loop-i-preserved c = wired_read c.args.nodes.now c.args.wiring.now c.loop-i.i c.index-nodes-i.result (omega (arith, c.loop-i-test.true)) c.index-nodes-i.is c.loop-i.invariant (c.has_all.ensures c.if-not-has_all.false)
