use Rattle.std.proofs.Common.{◌≡◌, ◌<◌, length, subst, arith}
use Rattle.graph_nodes.proofs.Wired.{FitBelow, all_fit}
use Rattle.graph_nodes.proofs.fits.all_fit.Goals as goal

pub returns : goal.returns
returns c = λ yes.
    let wide : 0 < c.args.wiring.now.width = let w = c.if-wiring-eq0.false in omega (arith, w) in
    let end : c.loop-i.i ≡ length c.args.wiring.now.below.items = let a = c.loop-i.auto.i-end in let b = c.loop-i-test.false in let l = c.len-i-end.ensures in omega (arith, a, b, l) in
    all_fit c.args.nodes.now c.args.wiring.now wide (subst (FitBelow c.args.nodes.now c.args.wiring.now) end c.loop-i.invariant)
