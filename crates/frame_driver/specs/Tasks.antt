-- The tasks of a queue by what they are for: the slot of a frame that a task answers, and the frame that a task
-- has go on. Ours.
use Rattle.std.specs.Prelude.{ℕ, ◌≡◌, ◌<◌, ◌≤◌, ◌==◌, ◌&&◌, Bool, false, cond, List, [], ◌∷◌, Option, Some, None}
use Rattle.xlator_law.specs.declared.winds.WindNo.{WindNo}
use Rattle.frame_stack.specs.declared.frame.Frame.{Frame}
use Rattle.frame_stack.specs.declared.frame.Opener.{Opener}
use Rattle.frame_stack.specs.Stack.{Stack, frame_at, word_at, pending, opener_of}
use Rattle.frame_driver.specs.declared.items.Task.{Task}
use Rattle.frame_driver.specs.declared.items.Task.TheVariants.{Enter, Resume, Go}

-- one for a yes, nothing for a no
abbrev pub one : Bool → ℕ
one b = cond b 1 0

module _ {F R : Type 0} where
  -- the task carries the answer of this slot of this frame
  abbrev pub is_due : ℕ → ℕ → Task F R → Bool
  is_due key n (Enter node call parent fop) = false
  is_due key n (Resume frame slot reply) = (frame == key) && (slot == n)
  is_due key n (Go frame) = false

  -- the frame goes on by this task
  abbrev pub is_going : ℕ → Task F R → Bool
  is_going key (Enter node call parent fop) = false
  is_going key (Resume frame slot reply) = false
  is_going key (Go frame) = key == frame

-- a frame, if it is open, is of this graph
abbrev pub IsOurs : {L : Type 0} → ℕ → Option (Frame L) → Type 0
IsOurs g None = Unit {0}
IsOurs g (Some f) = f.place.graph ≡ g

-- a wind, where it is open, was opened in this graph
abbrev pub IsOpenerOurs : ℕ → Option Opener → Type 0
IsOpenerOurs g None = Unit {0}
IsOpenerOurs g (Some o) = o.graph ≡ g

abbrev pub IsWindOurs : {L : Type 0} → Stack L → ℕ → WindNo → Type 0
IsWindOurs s g w = IsOpenerOurs g (opener_of s w)

-- the wind that opened a frame, if there is one and it is open, is of this graph
abbrev pub ParentIsOurs : {L : Type 0} → Stack L → ℕ → Option WindNo → Type 0
ParentIsOurs s g None = Unit {0}
ParentIsOurs s g (Some w) = IsWindOurs s g w

module _ {L : Type 0} where
  -- the wind was opened, and where it is open still, in this graph and for this call
  pub record WasOpened (s : Stack L) (g call : ℕ) (w : WindNo) : Type 0 where
    pub past : pending w ≤ word_at s w.slot
    pub kept : (o : Opener) → opener_of s w ≡ Some o → (o.graph ≡ g) × (o.call ≡ call)

  abbrev pub ParentWasOpened : Stack L → ℕ → ℕ → Option WindNo → Type 0
  ParentWasOpened s g call None = Unit {0}
  ParentWasOpened s g call (Some w) = WasOpened s g call w

  module _ {F R : Type 0} where
    -- the task is of this graph, which has so many nodes
    abbrev pub IsTask : ℕ → ℕ → Stack L → Task F R → Type 0
    IsTask n g s (Enter node call parent fop) = (node < n) × ParentWasOpened s g call parent
    IsTask n g s (Resume frame slot reply) = IsOurs g (frame_at s frame)
    IsTask n g s (Go frame) = IsOurs g (frame_at s frame)

    abbrev pub AreTasks : ℕ → ℕ → Stack L → List (Task F R) → Type 0
    AreTasks n g s [] = Unit {0}
    AreTasks n g s (x ∷ xs) = IsTask n g s x × AreTasks n g s xs
