use Rattle.afr_machine.proofs.BrickMoves.{bricks_move}
use Rattle.afr_machine.proofs.laws.one_brick_moves.Goals as goal

pub returns : goal.returns
returns c = bricks_move
