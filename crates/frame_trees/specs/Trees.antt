-- What the type of a tree keeps: the nodes fit their places, the board is sound, and the board lists the frames
-- that wait.
use Rattle.std.specs.Prelude.{ℕ, ◌<◌, List, length, map}
use Rattle.frame_driver.specs.declared.board.Board.{Board}
use Rattle.frame_driver.specs.declared.wiring.Wiring.{Wiring}
use Rattle.frame_driver.specs.Follows.{Fits}
use Rattle.frame_driver.specs.Sound.{SoundWith}
use Rattle.frame_driver.specs.Waits.{AreHeld}
use Rattle.frame_trees.specs.declared.kinds.Node.{Node}
use Rattle.frame_trees.specs.declared.kinds.Kept.{Kept}
use Rattle.frame_trees.specs.Kinds.{node_promise}

pub record IsTree (nodes : List Node) (wiring : Wiring) (board : Board ℕ ℕ Kept) : Type 0 where
  pub some : 0 < length nodes
  pub fits : Fits (map node_promise nodes) wiring
  pub fine : SoundWith (map node_promise nodes) board
  pub held : AreHeld fine.all (λ _. 0) board

-- a tree of the first board is one of the second
abbrev pub KeepsTrees : Board ℕ ℕ Kept → Board ℕ ℕ Kept → Type 0
KeepsTrees b c = (nodes : List Node) (wiring : Wiring) → IsTree nodes wiring b → IsTree nodes wiring c
