use Rattle.std.specs.Prelude.{length}
use Rattle.frame_driver.proofs.Replying.{Ending}
use Rattle.frame_driver.proofs.board.Board.end_all.Given as goal

abbrev pub invariant-loop-bailed : goal.invariant-loop-bailed
invariant-loop-bailed g l = Ending l.fn.winds.items l.rest l.fn.self l.self l.won

abbrev pub decreases-loop-bailed : goal.decreases-loop-bailed
decreases-loop-bailed g l = length l.rest
