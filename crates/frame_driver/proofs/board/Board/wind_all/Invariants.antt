use Rattle.std.specs.Prelude.{length}
use Rattle.frame_driver.proofs.Opening.{Winding}
use Rattle.frame_driver.proofs.board.Board.wind_all.Given as goal

abbrev pub invariant-loop-wound : goal.invariant-loop-wound
invariant-loop-wound g l = Winding l.fn.wiring l.fn.place l.fn.frame l.fn.self l.self l.fn.winds.items l.rest

abbrev pub decreases-loop-wound : goal.decreases-loop-wound
decreases-loop-wound g l = length l.rest
