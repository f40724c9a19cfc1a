-- How many winds of a call are open at once: at most what the nodes of its own frames, those that no wind opened,
-- have as their breadth. It rests on what a board keeps of each wind below (`Nests`): the node that it leads to
-- fits below the node that opened it. Ours.
use Rattle.std.specs.Prelude.{ℕ, ◌≡◌, ◌≤◌, ◌==◌, Bool, false, cond, List, [], ◌∷◌, Option, Some, None}
use Rattle.xlator_law.specs.declared.winds.WindNo.{WindNo}
use Rattle.xlator_law.specs.Law.{Promise, breadth}
use Rattle.frame_stack.specs.declared.frame.Frame.{Frame}
use Rattle.frame_stack.specs.declared.frame.Opener.{Opener}
use Rattle.frame_stack.specs.Stack.{Stack, frame_at, word_at, pending, opener_of}
use Rattle.frame_driver.specs.declared.board.Board.{Board}
use Rattle.frame_driver.specs.declared.items.Task.{Task}
use Rattle.frame_driver.specs.declared.items.Task.TheVariants.{Enter, Resume, Go}
use Rattle.frame_driver.specs.Follows.{no_promise, promise_at, promise_of}

-- whether an open wind is of this call
abbrev pub is_open_for : ℕ → Option Opener → Bool
is_open_for call None = false
is_open_for call (Some o) = o.call == call

-- a number that counts where no wind opened the frame
abbrev pub own_by : Option WindNo → ℕ → ℕ
own_by None n = n
own_by (Some w) n = 0

module _ {F L : Type 0} (ps : ℕ → List (Promise F L)) where
  -- what the node of a frame promises
  abbrev pub promise_in : Option (Frame L) → Promise F L
  promise_in None = no_promise
  promise_in (Some f) = promise_of ps f.place

  -- The wind was opened, and while it is open, a frame below it with this promise fits the frame that opened it.
  pub record HasRoom (s : Stack L) (p : Promise F L) (w : WindNo) : Type 0 where
    pub past : pending w ≤ word_at s w.slot
    pub room : (o : Opener) → opener_of s w ≡ Some o → breadth p ≤ (promise_in (frame_at s o.frame)).below

  abbrev pub HasRoomUnder : Stack L → Promise F L → Option WindNo → Type 0
  HasRoomUnder s p None = Unit {0}
  HasRoomUnder s p (Some w) = HasRoom s p w

  abbrev pub FrameFits : Stack L → Option (Frame L) → Type 0
  FrameFits s None = Unit {0}
  FrameFits s (Some f) = HasRoomUnder s (promise_of ps f.place) f.place.parent

  -- the breadth of a call's own frame
  abbrev pub own_breadth : ℕ → Option (Frame L) → ℕ
  own_breadth call None = 0
  own_breadth call (Some f) = own_by f.place.parent (cond (f.place.call == call) (breadth (promise_of ps f.place)) 0)

  module _ {R : Type 0} where
    abbrev pub TaskFits : ℕ → Stack L → Task F R → Type 0
    TaskFits g s (Enter node call parent fop) = HasRoomUnder s (promise_at (ps g) node) parent
    TaskFits g s (Resume frame slot reply) = Unit {0}
    TaskFits g s (Go frame) = Unit {0}

    abbrev pub TasksFit : ℕ → Stack L → List (Task F R) → Type 0
    TasksFit g s [] = Unit {0}
    TasksFit g s (x ∷ xs) = TaskFits g s x × TasksFit g s xs

    -- each frame and each fop that is to enter fits below the wind that it came by
    pub record Nests (b : Board F R L) : Type 0 where
      pub frames : (key : ℕ) → FrameFits b.stack (frame_at b.stack key)
      pub tasks : TasksFit b.graph b.stack b.queue
