-- Where calls' own fops are. The frames of a graph that no wind opened, and the fops that are still to enter by no
-- wind, are at one node, the root of the graph. Ours.
use Rattle.std.specs.Prelude.{ℕ, ◌≡◌, List, [], ◌∷◌, Option, Some, None}
use Rattle.xlator_law.specs.declared.winds.WindNo.{WindNo}
use Rattle.frame_stack.specs.declared.frame.Frame.{Frame}
use Rattle.frame_stack.specs.Stack.{frame_at}
use Rattle.frame_driver.specs.declared.board.Board.{Board}
use Rattle.frame_driver.specs.declared.items.Task.{Task}
use Rattle.frame_driver.specs.declared.items.Task.TheVariants.{Enter, Resume, Go}

-- what no wind opens is at the root
abbrev pub IsRootAt : ℕ → Option WindNo → ℕ → Type 0
IsRootAt root None node = node ≡ root
IsRootAt root (Some w) node = Unit {0}

-- the frame, if it is open and of this graph, is at the root or was opened by a wind
abbrev pub IsRooted : {L : Type 0} → ℕ → ℕ → Option (Frame L) → Type 0
IsRooted g root None = Unit {0}
IsRooted g root (Some f) = f.place.graph ≡ g → IsRootAt root f.place.parent f.place.node

module _ {F R : Type 0} where
  abbrev pub IsRootTask : ℕ → Task F R → Type 0
  IsRootTask root (Enter node call parent fop) = IsRootAt root parent node
  IsRootTask root (Resume frame slot reply) = Unit {0}
  IsRootTask root (Go frame) = Unit {0}

  abbrev pub AreRootTasks : ℕ → List (Task F R) → Type 0
  AreRootTasks root [] = Unit {0}
  AreRootTasks root (x ∷ xs) = IsRootTask root x × AreRootTasks root xs

pub record AreRooted {F R L : Type 0} (root : ℕ) (b : Board F R L) : Type 0 where
  pub frames : (key : ℕ) → IsRooted b.graph root (frame_at b.stack key)
  pub tasks : AreRootTasks root b.queue
