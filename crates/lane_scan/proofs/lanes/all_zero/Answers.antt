use Rattle.std.proofs.Common.{arith, refl}
use Rattle.std.proofs.lemmas.Bool.{iff_false, false≢true}
use Rattle.lane_scan.proofs.Pieces.{piece_of_zero, zero_pieces, one_more_zero}
use Rattle.lane_scan.proofs.lanes.all_zero.Goals as goal

pub returns-then-not-piece_is_zero : goal.returns-then-not-piece_is_zero
returns-then-not-piece_is_zero c = (
  λ t. absurd (false≢true t),
  λ z. absurd (iff_false c.piece_is_zero.ensures c.if-not-piece_is_zero.true (piece_of_zero c.loop-k.k c.args.block.now z)),
)

pub loop-k-preserved : goal.loop-k-preserved
loop-k-preserved c = one_more_zero c.loop-k.k c.args.block.now c.loop-k.invariant (c.piece_is_zero.ensures.0 c.if-not-piece_is_zero.false)

pub returns : goal.returns
returns c = (λ t. zero_pieces c.args.block.now c.told-block (λ k l. c.loop-k.invariant k (omega arith)), λ z. refl)
