-- What a check of a tree finds of each child: one that is a node fits its place, and the wiring has each child that a node
-- has.
use Rattle.std.specs.Prelude.{ℕ, ◌<◌, List}
use Rattle.frame_driver.specs.declared.wiring.Child.{Child}
use Rattle.frame_driver.specs.declared.wiring.Child.TheVariants as child
use Rattle.frame_driver.specs.declared.wiring.Wiring.{Wiring}
use Rattle.frame_driver.specs.Follows.{FitsAt}
use Rattle.frame_driver.specs.Wiring.{below, IsWired}
use Rattle.graph_items.specs.declared.items.Down.{Down}
use Rattle.graph_nodes.specs.declared.locals.Local.{Local}
use Rattle.xlator_law.specs.Law.{Promise}

abbrev pub FitsChild : List (Promise Down Local) → ℕ → Child → Type 0
FitsChild promises at (child.Node to) = (n : ℕ) → FitsAt promises at n to
FitsChild promises at child.Outside = Unit {0}
FitsChild promises at child.Nothing = Unit {0}

-- the wiring has so many children of this node
abbrev pub HasChildren : Wiring → ℕ → ℕ → Type 0
HasChildren wiring node children = (n : ℕ) → n < children → IsWired (below wiring node n)
