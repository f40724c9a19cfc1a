use Rattle.std.proofs.Common.{refl}
use Rattle.frame_driver.proofs.Rooting.{empty_rooted}
use Rattle.frame_driver.proofs.Sharing.{empty_sound, empty_nests}
use Rattle.frame_driver.proofs.board.Board.new.Goals as goal

pub returns-clause-board : goal.returns-clause-board
returns-clause-board g c = rw c.new.ensures.empty (rw c.new-2.ensures (rw c.new-3.ensures (rw c.new-4.ensures (rw c.new-5.ensures refl))))

pub returns-clause-sound : goal.returns-clause-sound
returns-clause-sound g c = rw c.new.ensures.empty (rw c.new-2.ensures (rw c.new-3.ensures (rw c.new-4.ensures (rw c.new-5.ensures (λ ps. empty_sound ps c.args.graph)))))

pub returns-clause-nests : goal.returns-clause-nests
returns-clause-nests g c = rw c.new.ensures.empty (rw c.new-2.ensures (rw c.new-3.ensures (rw c.new-4.ensures (rw c.new-5.ensures (λ ps. empty_nests ps c.args.graph)))))

pub returns-clause-rooted : goal.returns-clause-rooted
returns-clause-rooted g c = rw c.new.ensures.empty (rw c.new-2.ensures (rw c.new-3.ensures (rw c.new-4.ensures (rw c.new-5.ensures (λ root. empty_rooted root c.args.graph)))))
