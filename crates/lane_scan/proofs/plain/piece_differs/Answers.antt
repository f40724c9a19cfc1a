use Rattle.std.proofs.Common.{arith}
use Rattle.lane_scan.proofs.Pieces.{byte_of_same, same_from_bytes}
use Rattle.lane_scan.proofs.plain.piece_differs.Goals as goal

pub returns-then-a-i : goal.returns-then-a-i
returns-then-a-i c = λ e. c.if-a-i.true (byte_of_same c.args.k c.loop-i.i c.args.a.now c.args.b.now c.loop-i.auto.i c.loop-i-test.true e)

pub returns : goal.returns
returns c = same_from_bytes c.args.k c.args.a.now c.args.b.now c.requires.a c.requires.b (λ j low high. c.loop-i.invariant j low (omega arith))
