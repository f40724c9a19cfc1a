use Rattle.std.proofs.Common.{arith}
use Rattle.world_bricks.proofs.Chosen.{counted}
use Rattle.world_bricks.proofs.enabled.Enabled.count.Goals as goal

pub returns : goal.returns
returns c =
    let l = counted c.args.self.now c.len.result c.len-2.result c.len-3.result c.len.ensures.value c.len-2.ensures.value c.len-3.ensures.value in
    omega (arith, l, c.count_of.ensures.value)
