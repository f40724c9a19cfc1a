use Rattle.std.proofs.Common.{ap, arith}
use Rattle.std.specs.Prelude.{length}
use Rattle.world_bricks.specs.Lines.{LinesState}
use Rattle.world_bricks.proofs.Picked.{all_serving}
use Rattle.world_bricks.proofs.lines.Lines.serving.Goals as goal

pub returns : goal.returns
returns c =
    let long = ap (λ (l : LinesState). length l.bricks) c.self.view_is in
    all_serving c.args.self.now c.loop-brick.brick c.loop-brick.serving (omega (arith, long, c.len.ensures, c.min-brick-end.ensures, c.loop-brick-test.false)) c.loop-brick.invariant
