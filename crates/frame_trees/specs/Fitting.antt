-- What a check of a tree finds of each child: one that is a node fits its place, and the wiring has each child
-- that a node has.
use Rattle.std.specs.Prelude.{ℕ, ◌<◌, List, map}
use Rattle.frame_driver.specs.declared.wiring.Child.{Child}
use Rattle.frame_driver.specs.declared.wiring.Child.TheVariants as child
use Rattle.frame_driver.specs.declared.wiring.Wiring.{Wiring}
use Rattle.frame_driver.specs.Follows.{promise_at, FitsAt}
use Rattle.frame_driver.specs.Wiring.{below, IsWired}
use Rattle.frame_trees.specs.declared.kinds.Node.{Node}
use Rattle.frame_trees.specs.Kinds.{node_promise}

abbrev pub FitsChild : List Node → ℕ → Child → Type 0
FitsChild nodes at (child.Node to) = (n : ℕ) → FitsAt (map node_promise nodes) at n to
FitsChild nodes at child.Outside = Unit {0}
FitsChild nodes at child.Nothing = Unit {0}

-- the wiring has so many children of this node
abbrev pub HasChildren : Wiring → ℕ → ℕ → Type 0
HasChildren wiring node children = (n : ℕ) → n < children → IsWired (below wiring node n)
